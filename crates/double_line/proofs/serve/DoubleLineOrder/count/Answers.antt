use Rattle.std.proofs.Common.{◌≡◌, ◌*◌, ◌<◌, ℕ, Some, sym, ◌∙◌, rules, arith}
use Rattle.orders.proofs.Answered.{asked_some}
use Rattle.first_come.specs.First.{line_of}
use Rattle.first_come.specs.Lined.{lined_rules}
use Rattle.first_come.specs.Firsts.{neat_of}
use Rattle.double_line.proofs.serve.DoubleLineOrder.count.Goals as goal

pub map-requires : goal.map-requires
map-requires c =
    let l = c.args.self.now.line in
    let laws = lined_rules l.width l.places (line_of l) (neat_of l) in
    let fits : (x : ℕ) → c.count.result ≡ Some x → 2 * x < 4294967296 =
    λ x e. let a = asked_some _ _ x (sym e ∙ c.count.ensures) in omega (arith, a.1, laws.bounded c.args.resource c.args.task a.0, laws.small) in
    search (rules, fits)
