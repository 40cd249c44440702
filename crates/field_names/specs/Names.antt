-- Names of fields
use Rattle.std.specs.Prelude.{ℕ, cond, List, [], ◌∷◌, Some, None, codes, Option, ◌==◌}
use Rattle.std.specs.Borrow.{Bor}
use Rattle.field_names.specs.declared.name.Name.{Name}
use Rattle.field_names.specs.declared.name.Name.TheVariants.{Cores, Tasks, Resources, Order, Key, Event, Task, Due, Band, Level, Resource}

-- how a name is written, with the `=` that ends it
abbrev pub name_text : Name → List ℕ
name_text Cores = codes "cores="
name_text Tasks = codes "tasks="
name_text Resources = codes "resources="
name_text Order = codes "order="
name_text Key = codes "key="
name_text Event = codes "ev="
name_text Task = codes "task="
name_text Due = codes "due="
name_text Band = codes "band="
name_text Level = codes "level="
name_text Resource = codes "res="

-- what follows ps in l, where l begins with ps
unfoldable pub after : List ℕ → List ℕ → Option (List ℕ)
after [] l = Some l
after (p ∷ ps) [] = None
after (p ∷ ps) (x ∷ l) = cond (x == p) (after ps l) None

-- the bytes that a reference points to, if there is one
abbrev pub bare : Option (Bor (List ℕ)) → Option (List ℕ)
bare None = None
bare (Some x) = Some x.now
