use Rattle.std.proofs.Common.{refl}
use Rattle.event_text.proofs.Cutout.{field_inside, number_found, number_token}
use Rattle.event_text.proofs.read.read_number.Goals as goal

pub next_place-requires : goal.next_place-requires
next_place-requires c = field_inside c.args.line.now c.args.place c.args.wanted _ (number_token c.args.line.now c.args.place c.args.wanted c.in_ok-cut.field-0 c.in-Number.cut c.in_ok-cut.ensures c.in-Number.is)

pub returns-in-Number : goal.returns-in-Number
returns-in-Number c =
    number_found c.args.line.now c.args.place c.args.wanted _ (number_token c.args.line.now c.args.place c.args.wanted c.in_ok-cut.field-0 c.in-Number.cut c.in_ok-cut.ensures c.in-Number.is) refl _ c.number.ensures _ c.next_place.ensures
