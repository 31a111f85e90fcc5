-- Taking one command after the other. Assumes nothing.
use Rattle.std.proofs.Common.{◌≡◌, ℕ, zero, suc, ◌+◌, ◌*◌, ◌≤◌, Bool, true, false, cond, eqb, List, [], ◌∷◌, length, drop, Ok, Err, Result, sym, refl, ap, ◌∙◌, subst, add-zero, arith}
use Rattle.std.proofs.lemmas.Bool.{eqb-true}
use Rattle.terms.specs.declared.Form.{Form}
use Rattle.terms.specs.declared.Form.TheVariants.{Rules, Slips}
use Rattle.grammar.specs.declared.commands.Command.{Command}
use Rattle.grammar.specs.declared.commands.Command.TheVariants.{Atom, Var, Pair}
use Rattle.grammar.specs.declared.faults.CommandFault.{CommandFault}
use Rattle.grammar.specs.declared.faults.CommandFault.TheVariants.{Operands, NoTerm}
use Rattle.grammar.specs.Refusals.{command_place}
use Rattle.grammar.specs.TermCommands.{var_byte, two_operand, var_operand, command, operands, unfit, next, taken, commands_past, commands}
pub use Rattle.grammar.specs.TermCommands.{place_of}

-- a command with its first byte and the bytes after it
pub data Front : Form → ℕ → List ℕ → Command → Type 0 where
  atom_front : {f : Form} {b h l : ℕ} {bs : List ℕ} → b ≡ 0x01 → Front f b (h ∷ l ∷ bs) (Atom (h * 256 + l))
  pair_front : {f : Form} {b : ℕ} {bs : List ℕ} → b ≡ 0x03 → Front f b bs Pair
  variable_front : {b x : ℕ} {bs : List ℕ} → b ≡ 0x02 → Front Rules b (x ∷ bs) (Var x)
  unknown_front : {b h l : ℕ} {bs : List ℕ} → b ≡ 0x04 → Front Slips b (h ∷ l ∷ bs) (Var (h * 256 + l))

ok_inj : {T E : Type 0} {x y : T} → ◌≡◌ {A = Result T E} (Ok x) (Ok y) → x ≡ y
ok_inj e = cc

ok≢err : {T E : Type 0} {x : T} {y : E} → ◌≡◌ {A = Result T E} (Err y) (Ok x) → ⊥
ok≢err e = let z : ◌≡◌ {A = ℕ} 0 1 = cc in omega arith

atom_is : (f : Form) (p b : ℕ) (bs : List ℕ) (c : Command) → b ≡ 0x01 → two_operand p Atom bs ≡ Ok c → Front f b bs c
atom_is f p b [] c k e = absurd (ok≢err e)
atom_is f p b (h ∷ []) c k e = absurd (ok≢err e)
atom_is f p b (h ∷ l ∷ bs) c k e = subst (Front f b (h ∷ l ∷ bs)) (ok_inj e) (atom_front k)

var_is : (f : Form) (p b : ℕ) (bs : List ℕ) (c : Command) → b ≡ var_byte f → var_operand f p bs ≡ Ok c → Front f b bs c
var_is Rules p b [] c k e = absurd (ok≢err e)
var_is Rules p b (x ∷ bs) c k e = subst (Front Rules b (x ∷ bs)) (ok_inj e) (variable_front k)
var_is Slips p b [] c k e = absurd (ok≢err e)
var_is Slips p b (h ∷ []) c k e = absurd (ok≢err e)
var_is Slips p b (h ∷ l ∷ bs) c k e = subst (Front Slips b (h ∷ l ∷ bs)) (ok_inj e) (unknown_front k)

-- what a command that was read looks like
pub front : (f : Form) (p b : ℕ) (bs : List ℕ) (c : Command) → command f p b bs ≡ Ok c → Front f b bs c
front f p b bs c e = by (eqb b 0x01) (eqb b 0x03) (eqb b (var_byte f)) refl refl refl e
  where
    by : (x y z : Bool) → eqb b 0x01 ≡ x → eqb b 0x03 ≡ y → eqb b (var_byte f) ≡ z
        → cond x (two_operand p Atom bs) (cond y (Ok Pair) (cond z (var_operand f p bs) (Err (NoTerm p)))) ≡ Ok c → Front f b bs c
    by true y z i j k e = atom_is f p b bs c (eqb-true b 0x01 i) e
    by false true z i j k e = subst (Front f b bs) (ok_inj e) (pair_front (eqb-true b 0x03 j))
    by false false true i j k e = var_is f p b bs c (eqb-true b (var_byte f) k) e
    by false false false i j k e = absurd (ok≢err e)

pub has_operands : {f : Form} {b : ℕ} {bs : List ℕ} {c : Command} → Front f b bs c → operands f c ≤ length bs
has_operands (atom_front k) = omega arith
has_operands (pair_front k) = omega arith
has_operands (variable_front k) = omega arith
has_operands (unknown_front k) = omega arith

-- what belongs to the command before is passed over
pub past : (f : Form) (k p : ℕ) (bs : List ℕ) → k ≤ length bs → commands_past f k p bs ≡ commands f (p + k) (drop k bs)
past f zero p bs l = ap (λ n. commands f n bs) (sym (add-zero p))
past f (suc k) p [] l = absurd (omega arith)
past f (suc k) p (b ∷ bs) l = past f k (p + 1) bs (omega arith) ∙ ap (λ n. commands f n (drop k bs)) (omega arith)

pub one_more : (f : Form) (p b : ℕ) (bs : List ℕ) (c : Command) → command f p b bs ≡ Ok c
    → commands f p (b ∷ bs) ≡ next p c (commands f (p + (1 + operands f c)) (drop (operands f c) bs))
one_more f p b bs c e =
    ap (λ r. taken p r (λ c. commands_past f (operands f c) (p + 1) bs)) e
    ∙ ap (next p c) (past f (operands f c) (p + 1) bs (has_operands (front f p b bs c e)) ∙ ap (λ n. commands f n (drop (operands f c) bs)) (omega arith))

pub no_more : (f : Form) (p b : ℕ) (bs : List ℕ) (x : CommandFault) → command f p b bs ≡ Err x → commands f p (b ∷ bs) ≡ unfit x
no_more f p b bs x e = ap (λ r. taken p r (λ c. commands_past f (operands f c) (p + 1) bs)) e

two_place : (p : ℕ) (make : ℕ → Command) (bs : List ℕ) (x : CommandFault) → two_operand p make bs ≡ Err x → command_place x ≡ p
two_place p make [] x e = let i : x ≡ Operands p = cc in ap command_place i
two_place p make (h ∷ []) x e = let i : x ≡ Operands p = cc in ap command_place i
two_place p make (h ∷ l ∷ bs) x e = absurd (ok≢err (sym e))

var_place : (f : Form) (p : ℕ) (bs : List ℕ) (x : CommandFault) → var_operand f p bs ≡ Err x → command_place x ≡ p
var_place Rules p [] x e = let i : x ≡ Operands p = cc in ap command_place i
var_place Rules p (y ∷ bs) x e = absurd (ok≢err (sym e))
var_place Slips p bs x e = two_place p Var bs x e

-- a fault of a command stands at the command
pub fault_place : (f : Form) (p b : ℕ) (bs : List ℕ) (x : CommandFault) → command f p b bs ≡ Err x → command_place x ≡ p
fault_place f p b bs x e = by (eqb b 0x01) (eqb b 0x03) (eqb b (var_byte f)) e
  where
    by : (u v w : Bool) → cond u (two_operand p Atom bs) (cond v (Ok Pair) (cond w (var_operand f p bs) (Err (NoTerm p)))) ≡ Err x → command_place x ≡ p
    by true v w e = two_place p Atom bs x e
    by false true w e = absurd (ok≢err (sym e))
    by false false true e = var_place f p bs x e
    by false false false e = let i : x ≡ NoTerm p = cc in ap command_place i

pub place_first : (f : Form) (p : ℕ) (bs : List ℕ) → place_of (commands f p bs) ≡ p
place_first f p [] = refl
place_first f p (b ∷ bs) = by (command f p b bs) refl
  where
    by : (r : Result Command CommandFault) → command f p b bs ≡ r → place_of (taken p r (λ c. commands_past f (operands f c) (p + 1) bs)) ≡ p
    by (Ok c) e = refl
    by (Err x) e = fault_place f p b bs x e
