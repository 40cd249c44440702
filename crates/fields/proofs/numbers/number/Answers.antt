use Rattle.std.proofs.Common.{◌∙◌, rules}
use Rattle.fields.proofs.Values.{digit_low, a_digit, value_step, narrowed, too_wide, too_large, read_all}
use Rattle.fields.proofs.numbers.number.Goals as goal

pub overflow_sub-byte : goal.overflow_sub-byte
overflow_sub-byte c = digit_low c.args.text.now c.loop-byte.byte-index (search rules) c.loop-byte.invariant.digits

pub returns-in_err-value : goal.returns-in_err-value
returns-in_err-value c =
    let wide = too_wide c.try_from.result _ c.try_from.ensures c.in_err-value.ensures.value in
    c.from_residual.ensures ∙ too_large c.args.text.now c.loop-byte.byte-index c.loop-byte.value (search rules) c.loop-byte.invariant.value (search rules)

pub loop-byte-preserved : goal.loop-byte-preserved
loop-byte-preserved c =
    let narrow = narrowed c.try_from.result _ _ c.try_from.ensures c.in_ok-value.ensures.value in
    let step = value_step c.loop-byte.value c.args.text.now c.loop-byte.byte-index (search rules) in
    record {
      fits = search rules;
      value = cc;
      digits = (a_digit c.args.text.now c.loop-byte.byte-index (search rules) c.loop-byte.invariant.digits).1;
    }

pub returns : goal.returns
returns c = read_all c.args.text.now c.loop-byte.byte-index c.loop-byte.value (search rules) c.loop-byte.invariant.value c.loop-byte.invariant.fits (search rules) (search rules)
