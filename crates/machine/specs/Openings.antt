-- Opening a search: what is copied, and what comes of it. Assumes nothing.
use Rattle.std.specs.Prelude.{◌≡◌, ℕ, ◌+◌, ◌<◌, ◌≤◌, List, ◌++◌, length, Ok, Err, Result}
use Rattle.grammar.specs.Texts.{total}
use Rattle.grammar.specs.Items.{most_bytes}
use Rattle.slips.specs.declared.faults.OpeningFault.{OpeningFault}
use Rattle.slips.specs.declared.faults.OpeningFault.TheVariants.{TooManyBytes}
use Rattle.branches.specs.Copies.{flat, clauses_from}
use Rattle.branches.specs.declared.Clause.{Clause}
use Rattle.arrayvec.specs.ArrayVec.{ArrayVec}
use Rattle.machine.specs.declared.text.Text.{Text}

-- the bytes are at the end of the text t, which is then t'
pub record Appended (t : Text) (bs : List ℕ) (t' : Text) : Type 0 where
  pub room : length t.bytes + length bs ≤ most_bytes
  pub bytes : t'.bytes ≡ t.bytes ++ bs

-- a rule's bytes are, or have no room
abbrev pub Copied : Text → List ℕ → Text → Result Unit OpeningFault → Type 0
Copied t bs t' (Ok u) = Appended t bs t'
Copied t bs t' (Err e) = (e ≡ TooManyBytes) × (most_bytes < length t.bytes + length bs)

-- all rules are, and the clauses say where
pub record AllCopied (t : Text) (ts : List (List ℕ)) (t' : Text) (cs : List Clause) : Type 0 where
  pub appended : Appended t (flat ts) t'
  pub clauses : cs ≡ clauses_from (length t.bytes) ts

abbrev pub Gathered : Text → List (List ℕ) → Text → Result (ArrayVec Clause) OpeningFault → Type 0
Gathered t ts t' (Ok cs) = AllCopied t ts t' cs.items
Gathered t ts t' (Err e) = (e ≡ TooManyBytes) × (most_bytes < length t.bytes + total ts)
