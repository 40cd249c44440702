-- Lines of tasks keep the rules of an order of service
use Rattle.std.specs.Prelude.{◌≡◌, ℕ, zero, suc, ◌<◌, ◌≤◌, true, false, ◌||◌, List, [], ◌∷◌, ◌++◌, length, drop, Some, None, ◌==◌, ◌≢◌, nat_eq, slice_index_or, refl}
use Rattle.std.proofs.Math.Bool.{or-false}
use Rattle.std.proofs.Common.{arith, sym, ◌∙◌, ap}
use Rattle.std.proofs.lemmas.List.{nil_from_length}
use Rattle.std.proofs.lemmas.Bool.{true≢false, eq-eqb, ne_eqb, lt-ltb}
use Rattle.std.proofs.lemmas.Bool.Decides.{nat_tests}
use Rattle.orders.specs.Counting.{tally}
use Rattle.orders.specs.Orders.{Rules, Kept, Joined, Left}
use Rattle.orders.proofs.Counts.{tally_more, tally_none}
use Rattle.first_come.specs.declared.line.Entry.{Entry}
use Rattle.first_come.specs.Entries.{blank, has, place, code_of, leader, proper}
use Rattle.first_come.specs.First.{lined}

-- ---- where a task is in line

pub place_in : (t : ℕ) (xs : List Entry) → has t xs ≡ true → place t xs < length xs
place_in t [] h = absurd (true≢false (sym h))
place_in t (e ∷ es) h = grind (arith, place_in t es)

-- the entry at the place of a task is that task's
pub task_at : (t : ℕ) (xs : List Entry) → has t xs ≡ true → (slice_index_or xs (place t xs) blank).task ≡ t
task_at t [] h = absurd (true≢false (sym h))
task_at t (e ∷ es) h = grind (arith, nat_tests, task_at t es)

pub code_at : (t : ℕ) (xs : List Entry) → has t xs ≡ true → (slice_index_or xs (place t xs) blank).code ≡ code_of t xs
code_at t [] h = absurd (true≢false (sym h))
code_at t (e ∷ es) h = grind (arith, nat_tests, code_at t es)

-- whose entry stands at a place is in line
pub has_at : (t i : ℕ) (xs : List Entry) → i < length xs → (slice_index_or xs i blank).task ≡ t → has t xs ≡ true
has_at t i [] l e = absurd (omega arith)
has_at t zero (x ∷ xs) l e = rw (eq-eqb x.task t e)
has_at t (suc i) (x ∷ xs) l e = grind (arith, has_at t i xs (omega arith) e)

pub below_from_proper : (t : ℕ) (xs : List Entry) → proper xs ≡ true → has t xs ≡ true → t < 64
below_from_proper t [] p h = absurd (true≢false (sym h))
below_from_proper t (x ∷ xs) p h = grind (arith, nat_tests, below_from_proper t xs)

pub tally_line : (xs : List Entry) → proper xs ≡ true → tally (λ t. has t xs) 64 ≡ length xs
tally_line [] p = tally_none (λ t. false) 64 (λ k l. refl)
tally_line (x ∷ xs) p =
    let rest : proper xs ≡ true = grind arith in
    omega (arith, tally_more (λ t. has t xs) (λ t. has t (x ∷ xs)) x.task 64 (grind (arith, nat_tests)) (grind arith) (grind (arith, nat_tests)) (λ k ne. grind (arith, nat_tests)), tally_line xs rest)

-- ---- a newcomer at the end of a line

pub has_push : (u : ℕ) (xs : List Entry) (e : Entry) → has u (xs ++ (e ∷ [])) ≡ (has u xs || e.task == u)
has_push u [] e = or-false (e.task == u)
has_push u (x ∷ xs) e = grind (arith, has_push u xs e)

pub place_push : (u : ℕ) (xs : List Entry) (e : Entry) → has u xs ≡ true → place u (xs ++ (e ∷ [])) ≡ place u xs
place_push u [] e h = absurd (true≢false (sym h))
place_push u (x ∷ xs) e h = grind (arith, place_push u xs e)

pub place_last : (xs : List Entry) (e : Entry) → has e.task xs ≡ false → place e.task (xs ++ (e ∷ [])) ≡ length xs
place_last [] e h = rw (eq-eqb e.task e.task refl)
place_last (x ∷ xs) e h = grind (arith, place_last xs e)

pub code_push : (u : ℕ) (xs : List Entry) (e : Entry) → has u xs ≡ true → code_of u (xs ++ (e ∷ [])) ≡ code_of u xs
code_push u [] e h = absurd (true≢false (sym h))
code_push u (x ∷ xs) e h = grind (arith, code_push u xs e)

pub code_last : (xs : List Entry) (e : Entry) → has e.task xs ≡ false → code_of e.task (xs ++ (e ∷ [])) ≡ e.code
code_last [] e h = rw (eq-eqb e.task e.task refl)
code_last (x ∷ xs) e h = grind (arith, code_last xs e)

pub proper_push : (xs : List Entry) (e : Entry) → proper xs ≡ true → has e.task xs ≡ false → e.task < 64 → proper (xs ++ (e ∷ [])) ≡ true
proper_push [] e p n l = rw (lt-ltb e.task 64 l)
proper_push (x ∷ xs) e p n l = grind (arith, nat_tests, proper_push xs e, has_push x.task xs e)

leader_push : (xs : List Entry) (e : Entry) → (length xs ≢ 0) → leader (xs ++ (e ∷ [])) ≡ leader xs
leader_push [] e h = absurd (h refl)
leader_push (x ∷ xs) e h = refl

-- ---- the first in line

leader_has : (t : ℕ) (xs : List Entry) → leader xs ≡ Some t → has t xs ≡ true
leader_has t [] h = let z : ◌≡◌ {A = ℕ} 0 1 = cc in absurd (omega arith)
leader_has t (x ∷ xs) h = grind (arith, nat_tests)

leader_some : (t : ℕ) (xs : List Entry) → has t xs ≡ true → leader xs ≢ None
leader_some t [] h n = true≢false (sym h)
leader_some t (x ∷ xs) h n = grind arith

leader_first : (t : ℕ) (xs : List Entry) → leader xs ≡ Some t → place t xs ≡ 0
leader_first t [] h = refl
leader_first t (x ∷ xs) h = grind (arith, nat_tests)

place_later : (t : ℕ) (xs : List Entry) → has t xs ≡ true → (leader xs ≢ Some t) → 1 ≤ place t xs
place_later t [] h n = absurd (true≢false (sym h))
place_later t (x ∷ xs) h n = grind (arith, nat_tests)

-- the first leaves the line: it is gone, the others stay, with their codes and one place nearer
leader_gone : (t : ℕ) (xs : List Entry) → proper xs ≡ true → leader xs ≡ Some t → has t (drop 1 xs) ≡ false
leader_gone t [] p h = refl
leader_gone t (x ∷ xs) p h = grind (arith, nat_tests)

has_rest : (t : ℕ) (xs : List Entry) → (leader xs ≢ Some t) → has t (drop 1 xs) ≡ has t xs
has_rest t [] n = refl
has_rest t (x ∷ xs) n = grind (arith, nat_tests)

rest_moves : (t : ℕ) (xs : List Entry) → proper xs ≡ true → has t (drop 1 xs) ≡ true → (place t xs ≡ suc (place t (drop 1 xs))) × (code_of t (drop 1 xs) ≡ code_of t xs)
rest_moves t [] p h = absurd (true≢false (sym h))
rest_moves t (x ∷ xs) p h = (grind (arith, nat_tests), grind (arith, nat_tests))

-- ---- lines, one for each resource

-- lines that are no longer than p ≤ 64, of tasks below 64, each once, and of resources below 32
pub record Neat (p : ℕ) (q : ℕ → List Entry) : Type 0 where
  pub few : p ≤ 64
  pub fits : (r : ℕ) → length (q r) ≤ p
  pub neat : (r : ℕ) → proper (q r) ≡ true
  pub known : (r t : ℕ) → has t (q r) ≡ true → r < 32

pub lined_rules : (m p : ℕ) (q : ℕ → List Entry) → Neat p q → Rules (lined m p q)
lined_rules m p q n = record {
  within = λ r t h. (n.known r t h, below_from_proper t (q r) (n.neat r) h);
  room = λ r. rw (tally_line (q r) (n.neat r)) (n.fits r);
  small = let f = n.few in omega arith;
  held = λ r t h. leader_has t (q r) h;
  some = λ r t h e. leader_some t (q r) h e;
  first = λ r t h. leader_first t (q r) h;
  later = λ r t h c w. place_later t (q r) h w;
  cover = λ r t h c. absurd (true≢false (sym c));
  bounded = λ r t h. let a = place_in t (q r) h in let b = n.fits r in omega arith;
}

-- a line that did not change
kept_line : (m p n o : ℕ) (q z : ℕ → List Entry) (r t : ℕ) → z r ≡ q r → Kept (lined m p q) (lined n o z) r t
kept_line m p n o q z r t e = record {
  queued = ap (has t) e;
  code = λ h. ap (code_of t) e;
  count = λ h. ap (place t) e;
  covered = λ h. refl;
}

pub lined_joined : (m p n o : ℕ) (q z : ℕ → List Entry) (r t c : ℕ) → proper (q r) ≡ true → has t (q r) ≡ false → z r ≡ q r ++ (record { task = t; code = c } ∷ []) → ((k : ℕ) → (k ≢ r) → z k ≡ q k) → Joined (lined m p q) r t c (lined n o z)
lined_joined m p n o q z r t c neat out e apart =
    let last : Entry = record { task = t; code = c } in
    let same : nat_eq t t ≡ true = eq-eqb t t refl in
    let sized = tally_line (q r) neat in
    record {
      queued = rw (e, has_push t (q r) last, out, same);
      code = rw e (code_last (q r) last out);
      alone = λ z0. let nil = nil_from_length (q r) (sym sized ∙ z0) in rw (e, nil);
      behind = λ some. rw e (leader_push (q r) last (λ nil. some (sized ∙ nil)));
      beside = λ u ne. record {
        queued = rw (e, has_push u (q r) last, ne_eqb t u (λ s. ne (sym s))) (or-false (has u (q r)));
        code = λ h. rw e (code_push u (q r) last h);
        count = λ h. rw e (place_push u (q r) last h);
        covered = λ h. refl;
      };
      apart = λ k ne. (ap leader (apart k ne), λ u. kept_line m p n o q z k u (apart k ne));
    }

pub lined_left : (m p n o : ℕ) (q z : ℕ → List Entry) (r : ℕ) → proper (q r) ≡ true → z r ≡ drop 1 (q r) → ((k : ℕ) → (k ≢ r) → z k ≡ q k) → Left (lined m p q) r (lined n o z)
lined_left m p n o q z r neat e apart = record {
  gone = λ t h. rw e (leader_gone t (q r) neat h);
  rest = λ t h. rw e (has_rest t (q r) h);
  codes = λ t h. rw e (rest_moves t (q r) neat (rw e at h)).1;
  falls = λ t h. rw e (omega (arith, (rest_moves t (q r) neat (rw e at h)).0));
  nears = λ t h u. rw e (omega (arith, (rest_moves t (q r) neat (rw e at h)).0));
  apart = λ k ne. (ap leader (apart k ne), λ u. kept_line m p n o q z k u (apart k ne));
}
