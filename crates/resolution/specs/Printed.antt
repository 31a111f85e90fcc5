-- What is printed of a stop, a word and a refusal. Assumes nothing.
use Rattle.std.specs.Prelude.{ℕ, List, codes}
use Rattle.std.specs.Fmt.{decimal}
use Rattle.resolution.specs.declared.Stop.{Stop}
use Rattle.resolution.specs.declared.Stop.TheVariants.{Deep, Cells}
use Rattle.resolution.specs.declared.Word.{Word}
use Rattle.resolution.specs.declared.Word.TheVariants.{Answer, Spent, Stopped, NoMore}
use Rattle.resolution.specs.declared.Refusal.{Refusal}
use Rattle.resolution.specs.Limits.{refusal_number}

abbrev pub stop_text : Stop → List ℕ
stop_text Deep = codes "deep"
stop_text Cells = codes "cells"

abbrev pub word_text : Word → List ℕ
word_text Answer = codes "answer"
word_text Spent = codes "spent"
word_text (Stopped why) = stop_text why
word_text NoMore = codes "none"

abbrev pub refusal_text : Refusal → List ℕ
refusal_text e = decimal (refusal_number e)
