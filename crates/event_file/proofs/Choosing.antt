-- what a header chooses
use Rattle.std.proofs.Common.{◌≡◌, ℕ, cond, ◌&&◌, ltb, leb, List, [], replicate, IfOk, Ok, Err, Result, sym, subst, arith}
use Rattle.first_come.specs.declared.first.FirstCome.{FirstCome}
use Rattle.first_come.specs.Lines.{fresh_line}
use Rattle.event_text.specs.declared.heading.OrderWord.{OrderWord}
use Rattle.event_text.specs.declared.heading.KeyWord.{KeyWord}
use Rattle.event_text.specs.declared.fault.TextFault.TheVariants.{NoForm}
use Rattle.event_report.specs.declared.report.Report.{Report}
use Rattle.event_report.specs.declared.report.Reason.TheVariants.{LongFile, Text}
use Rattle.event_report.specs.Reasons.{Refused}
use Rattle.event_run.proofs.Lines.{no_lines}
use Rattle.event_file.specs.Files.{NewLine, Chosen, FromHeader, FileRun}

-- what is made so is made in another way, if that follows
pub made_into : {X E : Type 0} (P Q : X → Type 0) (r : Result X E) → ((x : X) → P x → Q x) → IfOk r P → IfOk r Q
made_into P Q (Ok x) f p = f x p
made_into P Q (Err e) f p = p

pub by_order : {E : Type 0} (w v : OrderWord) (k : KeyWord) (m n r : ℕ) (ls : List (List ℕ)) (a : Result Report E) → w ≡ v → IfOk a (Chosen v k m n r ls) → IfOk a (Chosen w k m n r ls)
by_order w v k m n r ls a e p = subst (λ (x : OrderWord). IfOk a (Chosen x k m n r ls)) (sym e) p

-- a line as it is made with 64 places
pub new_line : (m : ℕ) (s : FirstCome) → s.width ≡ m → s.places ≡ cond (leb 1 m && (leb m 16 && (leb 1 64 && leb 64 64))) 64 0 → s.lines ≡ replicate 32 fresh_line → NewLine m s
new_line m s width places same = record { width = width; places = grind (arith, places); lines = same }

-- an empty file has no header
pub empty_file : {E : Type 0} (bytes : List ℕ) (a : Result Report E) → bytes ≡ [] → IfOk a (Refused (Text NoForm)) → IfOk a (FileRun bytes)
empty_file bytes a e p = subst (λ (l : List ℕ). IfOk a (FileRun l)) (sym e) (subst (λ (ls : List (List ℕ)). IfOk a (λ rep. cond (ltb 65536 0) (Refused LongFile rep) (FromHeader ls rep))) (sym no_lines) p)
