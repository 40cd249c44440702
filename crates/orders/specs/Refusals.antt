-- What `{}` prints of a refusal
use Rattle.std.specs.Prelude.{ℕ, List, codes}
use Rattle.orders.specs.declared.refusal.OrderRefusal.{OrderRefusal}
use Rattle.orders.specs.declared.refusal.OrderRefusal.TheVariants.{Unknown, Queued, Full, Empty}

abbrev pub refusal_text : OrderRefusal → List ℕ
refusal_text Unknown = codes "the order of service knows no such task or resource"
refusal_text Queued = codes "the task is queued there already"
refusal_text Full = codes "every place of the resource is taken"
refusal_text Empty = codes "nobody is queued for the resource"
