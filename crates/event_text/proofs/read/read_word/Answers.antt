use Rattle.std.proofs.Common.{sym, refl}
use Rattle.event_text.proofs.Cutout.{field_inside, word_found, number_no_word, number_token, word_token}
use Rattle.event_text.proofs.read.read_word.Goals as goal

pub next_place-requires : goal.next_place-requires
next_place-requires c = field_inside c.args.line.now c.args.place c.args.wanted _ (word_token c.args.line.now c.args.place c.args.wanted c.in_ok-cut.field-0 c.in-Word.cut c.in_ok-cut.ensures c.in-Word.is)

pub returns-in-Word : goal.returns-in-Word
returns-in-Word c =
    word_found c.args.line.now c.args.place c.args.wanted _ (word_token c.args.line.now c.args.place c.args.wanted c.in_ok-cut.field-0 c.in-Word.cut c.in_ok-cut.ensures c.in-Word.is) c.args.word (sym c.if-is.ensures) _ c.next_place.ensures

pub returns-in_default-2 : goal.returns-in_default-2
returns-in_default-2 c =
    number_no_word c.args.line.now c.args.place c.args.wanted _ (number_token c.args.line.now c.args.place c.args.wanted c.in_ok-cut.field-0 c.in_default.field-0 c.in_ok-cut.ensures c.in_default.is) c.args.word refl
