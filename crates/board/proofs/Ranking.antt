-- Effective ranks as numbers
use Rattle.std.proofs.Common.{◌≡◌, ℕ, zero, suc, ◌<◌, ◌≤◌, min, Bool, true, false, ◌&&◌, ltb, List, get_or, sym, refl, ap, ◌∙◌, inl, inr, arith}
use Rattle.std.proofs.lemmas.Bool.{cases_Bool, and_parts, and_from, lt-ltb, le-ltb, ltb-true}
use Rattle.std.proofs.lemmas.Bool.Decides.{nat_tests}
use Rattle.orders.specs.Counting.{tally}
use Rattle.orders.proofs.Counts.{tally_same, tally_top, tally_le, tally_less}
use Rattle.jobs.specs.Ranks.{ahead, best, total}
use Rattle.jobs.specs.declared.state.TaskState.{TaskState}
use Rattle.jobs.specs.declared.state.TaskState.TheVariants.{Idle, Ready, Waiting, Holding}
use Rattle.jobs.specs.Jobs.{Jobs, pending, active, lends, lead, precedes, running, demand}
use Rattle.jobs.proofs.Counting.{tally_total}
use Rattle.jobs.proofs.Leads.{ahead_past, best_from, lends_parts, lead_pending}
use Rattle.board.specs.Boards.{named}
use Rattle.board.specs.Settling.{least, inherited, rank, foremost, sharing}

-- a test that fails below n leaves fewer than n
pub tally_short : (f : ℕ → Bool) (x n : ℕ) → x < n → f x ≡ false → tally f n < n
tally_short f x n l e =
    let a = tally_less f (λ _. true) x n l e refl (λ k m h. refl) in
    let b = tally_top (λ _. true) n in
    omega arith

-- nobody passes
least_none : (g : ℕ → ℕ) (n : ℕ) → least (λ i. false) g n ≡ 64
unfolding least
least_none g zero = refl
least_none g (suc n) = least_none g n

module _ (j : Jobs) where
  -- the test that the demand of k counts
  abbrev rivals : ℕ → ℕ → Bool
  rivals k i = pending (j.state i) && ahead j.code i k

  pub demand_below : (k : ℕ) → k < 64 → demand j k < 64
  unfolding demand
  demand_below k l = tally_short (rivals k) k 64 l (grind (arith, nat_tests))

  -- who is ahead has fewer ahead of it
  demand_less : (i k : ℕ) → i < 64 → pending (j.state i) ≡ true → ahead j.code i k ≡ true → demand j i < demand j k
  unfolding demand
  demand_less i k l p a = tally_less (rivals i) (rivals k) i 64 l (grind (arith, nat_tests)) (and_from _ _ p a) (λ x m h. grind (arith, nat_tests))

  -- who is not ahead does not
  demand_most : (i k : ℕ) → ahead j.code i k ≡ false → demand j k ≤ demand j i
  unfolding demand
  demand_most i k a = tally_le (rivals k) (rivals i) 64 (λ x m h.
      let p = and_parts (pending (j.state x)) (ahead j.code x k) h in and_from _ _ p.0 (ahead_past j.code x k i p.1 a))

  -- rank by demand
  ahead_demand : (i k : ℕ) → i < 64 → pending (j.state i) ≡ true → ahead j.code i k ≡ ltb (demand j i) (demand j k)
  ahead_demand i k l p = elim (cases_Bool (ahead j.code i k)) [
    | inl a ↦ a ∙ sym (lt-ltb _ _ (demand_less i k l p a))
    | inr a ↦ a ∙ sym (le-ltb _ _ (demand_most i k a))
  ]

  -- the demand of the best is the least
  best_demand : (p : ℕ → Bool) (f n : ℕ) → n ≤ 64 → ((i : ℕ) → p i ≡ true → pending (j.state i) ≡ true) → demand j f ≤ 64 → demand j (best j.code p f n) ≡ min (demand j f) (least p (demand j) n)
  unfolding best least
  best_demand p f zero m h t = omega arith
  best_demand p f (suc n) m h t =
      let i = best_demand p f n (omega arith) h t in
      let b = best j.code p f n in
      elim (cases_Bool (p n)) [
        | inl e ↦ elim (cases_Bool (ahead j.code n b)) [
          | inl a ↦ let d = demand_less n b (omega arith) (h n e) a in rw (e, a) (omega arith)
          | inr a ↦ let d = demand_most n b a in rw (e, a) (omega arith)
        ]
        | inr e ↦ rw e (omega arith)
      ]

  lead_below : (k : ℕ) → k < 64 → lead j k < 64
  unfolding lead
  lead_below k l = elim (best_from j.code (λ i. lends (j.state k) (j.state i)) k 64) [ inl e ↦ rw e l | inr e ↦ e.0 ]

  pub rank_below : (k : ℕ) → k < 64 → rank j k < 64
  rank_below k l = demand_below (lead j k) (lead_below k l)

  -- only jobs that wait are lent to
  lent_pending : (s p : TaskState) → lends s p ≡ true → pending p ≡ true
  lent_pending s p e = rw (lends_parts s p e).2

  rank_least : (k : ℕ) → k < 64 → rank j k ≡ min (demand j k) (least (λ i. lends (j.state k) (j.state i)) (demand j) 64)
  unfolding lead
  rank_least k l = best_demand (λ i. lends (j.state k) (j.state i)) k 64 (omega arith) (λ i e. lent_pending (j.state k) (j.state i) e) (let d = demand_below k l in omega arith)

  -- a job that holds nothing has its own rank
  rank_own : (k : ℕ) → k < 64 → least (λ i. lends (j.state k) (j.state i)) (demand j) 64 ≡ 64 → demand j k ≡ rank j k
  rank_own k l e = let d = demand_below k l in let m = rank_least k l in omega arith

  -- a rank is one's own, or inherited from those that wait for what one holds
  pub rank_inherited : (k : ℕ) → k < 64 → (list : List ℕ) → ((r : ℕ) → r < 32 → get_or list r 0 ≡ foremost j r 64) → named (j.state k) ≡ true → inherited (j.state k) (demand j k) list ≡ rank j k
  rank_inherited k l list waiting known = go (j.state k) refl known
    where
      go : (s : TaskState) → j.state k ≡ s → named s ≡ true → inherited s (demand j k) list ≡ rank j k
      go Idle e h = rank_own k l (rw e (least_none (demand j) 64))
      go Ready e h = rank_own k l (rw e (least_none (demand j) 64))
      go (Waiting r) e h = rank_own k l (rw e (least_none (demand j) 64))
      go (Holding r) e h = rw (waiting r (ltb-true r 32 h)) (sym (rw e at (rank_least k l)))

  -- one precedes another by rank
  precedes_rank : (i k : ℕ) → i < 64 → precedes j i k ≡ (active (j.state i) && ltb (rank j i) (rank j k))
  precedes_rank i k l = elim (cases_Bool (active (j.state i))) [
    | inl a ↦ rw a (ahead_demand (lead j i) (lead j k) (lead_below i l) (lead_pending j i a))
    | inr a ↦ rw a
  ]

  -- how many precede a job: those of each lesser rank
  pub running_rank : (m k : ℕ) → running j m k ≡ (active (j.state k) && ltb (total (λ p. sharing j p 64) (rank j k)) m)
  unfolding running
  running_rank m k =
      let a : tally (λ i. precedes j i k) 64 ≡ tally (λ i. active (j.state i) && ltb (rank j i) (rank j k)) 64 = tally_same (λ i. active (j.state i) && ltb (rank j i) (rank j k)) (λ i. precedes j i k) 64 (λ i l. precedes_rank i k l) in
      let b = tally_total (λ i. active (j.state i)) (rank j) 64 (rank j k) in
      ap (λ n. active (j.state k) && ltb n m) (a ∙ b)
