-- Words
use Rattle.std.specs.Prelude.{ℕ, List, codes}
use Rattle.fields.specs.declared.word.Word.{Word}
use Rattle.fields.specs.declared.word.Word.TheVariants.{Fifo, Gate, Deadline, Fixed, Arrive, Request, Release, Finish, Tick}

-- how a word is written
abbrev pub word_text : Word → List ℕ
word_text Fifo = codes "fifo"
word_text Gate = codes "gate"
word_text Deadline = codes "deadline"
word_text Fixed = codes "fixed"
word_text Arrive = codes "arrive"
word_text Request = codes "request"
word_text Release = codes "release"
word_text Finish = codes "finish"
word_text Tick = codes "tick"
