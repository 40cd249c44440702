-- A gate over first-come as it is made, and as check accepts it
use Rattle.std.proofs.Common.{◌≡◌, ℕ, ◌+◌, ◌-◌, ◌*◌, ◌≤◌, true, cond, not, ◌&&◌, ltb, [], get_or, is_some, None, refl, ap, ◌∙◌, inl, inr, arith}
use Rattle.std.proofs.lemmas.Bool.{cases_Bool, and_parts, and_from, le-leb, le-ltb, eq-eqb}
use Rattle.keys.specs.declared.kind.KeyKind
use Rattle.orders.specs.Counting.{every}
use Rattle.orders.specs.Orders.{Meaning}
use Rattle.orders.specs.Services.{meaning}
use Rattle.orders.specs.Gating.{fit, idle, gated, shut}
use Rattle.first_come.specs.declared.first.FirstCome.{FirstCome}
use Rattle.first_come.specs.Lines.{empty, waiting, leader}
use Rattle.first_come.specs.First.{first_meaning}
use Rattle.gate.specs.declared.gate.Gate.{Gate}
use Rattle.gate.specs.Gates.{marked, noted}
use Rattle.gate.specs.Gatelaws.{fit_parts as gate_fit}
use Rattle.gated_line.specs.GatedLine.{line_order, gated_order, Empty}
use Rattle.gated_line.proofs.Sim.{Sim, proper_width, line_laws, is_open, sim_new}
use Rattle.runs.specs.Steps.{Facts, State, Fresh, unfit, kernel_of, at_start}
use Rattle.runs.proofs.Checked.{Fits, fit_parts}
use Rattle.longest.specs.Longest.{gated_kernel}

-- a gate can have 1 to 16 cores
pub width_fine : (m : ℕ) → 1 ≤ m → m ≤ 16 → proper_width m ≡ true
width_fine m a b = rw (le-leb 1 m a, le-leb m 16 b, eq-eqb m m refl, le-leb (2 * (m - 1) + 1) 65535 (omega arith))

-- check accepts what is right in all of its points
fits_unfit : (m n r : ℕ) (v : Meaning) → Fits m n r v → unfit m n r v ≡ None
fits_unfit m n r v f = rw (le-leb 1 m f.some_core, le-leb m 16 f.few_cores, le-leb 1 n f.some_task, le-leb n 64 f.few_tasks, le-leb 1 r f.some_resource, le-leb r 32 f.few_resources, eq-eqb v.width m f.wide, le-ltb v.places n f.roomy, f.empty)

module _ (m : ℕ) (g : Gate FirstCome) (low : 1 ≤ m) (high : m ≤ 16) (new : Empty m g) where
  -- nobody is in line or in the gate
  pub made_sim : Sim g m [] []
  made_sim = sim_new new (and_from _ _ (le-leb 1 m low) (le-leb m 16 high))

  -- the gate is open
  opened : (g.fresh && fit (first_meaning g.lower)) ≡ true
  opened = is_open made_sim (width_fine m low high)

  -- nobody holds anything
  made_idle : idle (meaning gated_order g) ≡ true
  unfolding every
  made_idle =
      ap (λ b. every (λ r. not (is_some ((cond b (gated (first_meaning g.lower) (marked g.rows) (noted g.rows)) (shut g.lower.width)).holder r))) 32) opened ∙
      ap (λ ls. every (λ r. not (is_some (leader (cond (ltb r 32) (waiting (get_or ls r empty)) [])))) 32) new.lines

  -- check accepts it
  pub made_fresh : {K D Y : Type 0} (kind : KeyKind.Ghosts K D Y) (n r : ℕ) → 1 ≤ n → n ≤ 64 → 1 ≤ r → r ≤ 32 → Fresh (gated_kernel kind m n r) (at_start g)
  made_fresh kind n r one top any few = record {
    checked = refl;
    fit = fits_unfit m n r (meaning gated_order g) (record {
      some_core = low;
      few_cores = high;
      some_task = one;
      few_tasks = top;
      some_resource = any;
      few_resources = few;
      wide = rw opened new.width;
      roomy = rw opened top;
      empty = made_idle;
    });
    blank = refl;
  }

-- an open gate for m cores stands before a line of m places
open_reach : (m n r : ℕ) (g : Gate FirstCome) → Fits m n r (meaning gated_order g) → gated_order.reach g ≡ 2 * m - 1
open_reach m n r g f = elim (cases_Bool (g.fresh && fit (first_meaning g.lower))) [
  | inl o ↦
      let exact = (gate_fit (meaning line_order g.lower) (line_laws.rules g.lower) (and_parts g.fresh _ o).1).exact in
      let wide : g.lower.width ≡ m = rw o at f.wide in
      let some = f.some_core in
      rw o (omega arith)
  | inr o ↦ absurd (let none : n ≤ 0 = rw o at f.roomy in let some = f.some_task in omega arith)
]

-- the reach of a gate that check accepts
pub fresh_reach : {K D Y : Type 0} (kind : KeyKind.Ghosts K D Y) (f : Facts) (start : State (Gate FirstCome)) → Fresh (kernel_of gated_order kind f) start →
    gated_order.reach start.order ≡ 2 * f.cores - 1
fresh_reach kind f start fresh = open_reach f.cores f.tasks f.resources start.order (fit_parts _ _ _ _ fresh.fit)
