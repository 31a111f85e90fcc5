-- What is read as terms is their encoding, and an encoding is read as its terms. Assumes nothing.
use Rattle.std.proofs.Common.{◌≡◌, ℕ, zero, suc, ◌+◌, ◌*◌, ◌/◌, ◌%◌, ◌<◌, ◌≤◌, Bool, true, false, ltb, List, [], ◌∷◌, ◌++◌, length, drop, Ok, Err, Result, sym, refl, ap, ◌∙◌, subst, ap₂, append_assoc, add-zero, arith, length-append}
use Rattle.std.proofs.lemmas.Bool.{ltb-true, lt-ltb}
use Rattle.terms.specs.declared.Form.{Form}
use Rattle.terms.specs.declared.Form.TheVariants.{Rules, Slips}
use Rattle.terms.specs.Terms.{Term, var, atom, pair}
use Rattle.terms.specs.Bytes.{two, encoding, encodings, Fits, AllFit}
use Rattle.grammar.specs.declared.commands.Command.{Command}
use Rattle.grammar.specs.declared.commands.Command.TheVariants.{Atom, Var, Pair}
use Rattle.grammar.specs.declared.faults.CommandFault.{CommandFault}
use Rattle.grammar.specs.declared.faults.RuleFault.{RuleFault}
use Rattle.grammar.specs.declared.faults.RuleFault.TheVariants.{Undeclared}
use Rattle.grammar.specs.Asking.{ask}
use Rattle.grammar.specs.Encodings.{AllBytes}
use Rattle.grammar.specs.TermCommands.{command, operands, Commands, next, commands, with_term, with_pair, terms}
use Rattle.grammar.proofs.Taking.{Front, atom_front, pair_front, variable_front, unknown_front, front, one_more, no_more}
use Rattle.grammar.proofs.Counting.{Reading, Counted, counted}

-- ── what is read is an encoding ──

-- the bytes at p are the encoding of these terms, and then the rest
pub record Encoded (f : Form) (v p : ℕ) (bs : List ℕ) (ts : List Term) (left : Commands) : Type 0 where
  pub rest : List ℕ
  pub split : bs ≡ encodings f ts ++ rest
  pub after : left ≡ commands f (p + length (encodings f ts)) rest
  pub fit : AllFit v ts

abbrev pub Encodes : Form → ℕ → ℕ → List ℕ → Reading → Type 0
Encodes f v p bs (Ok (ts, left)) = Encoded f v p bs ts left
Encodes f v p bs (Err e) = Unit {0}

-- one leaf more in front
leaf_more : (f : Form) (v p : ℕ) (t : Term) (bs : List ℕ) (r : Reading) → Fits v t
    → Encodes f v (p + length (encoding f t)) bs r → Encodes f v p (encoding f t ++ bs) (with_term t r)
leaf_more f v p t bs (Ok (ts, left)) k e =
    record {
      rest = e.rest;
      split = ap (λ l. encoding f t ++ l) e.split ∙ sym (append_assoc (encoding f t) (encodings f ts) e.rest);
      after = e.after ∙ ap (λ n. commands f n e.rest) (omega (arith, length-append (encoding f t) (encodings f ts)));
      fit = (k, e.fit);
    }
leaf_more f v p t bs (Err x) k e = tt

pair_more : (f : Form) (v n p : ℕ) (bs : List ℕ) (r : Reading) → Counted (suc (suc n)) r
    → Encodes f v (p + 1) bs r → Encodes f v p (0x03 ∷ bs) (with_pair r)
pair_more f v n p bs (Ok ([], left)) c e = absurd (omega arith)
pair_more f v n p bs (Ok (s ∷ [], left)) c e = absurd (omega arith)
pair_more f v n p bs (Ok (s ∷ t ∷ ts, left)) c e =
    let same = append_assoc (encoding f s) (encoding f t) (encodings f ts) in
    record {
      rest = e.rest;
      split = ap (λ l. 0x03 ∷ l) (e.split ∙ ap (λ l. l ++ e.rest) (sym same));
      after = e.after ∙ ap (λ n. commands f n e.rest) (omega (arith, ap length same));
      fit = ((e.fit.0, e.fit.1.0), e.fit.1.1);
    }
pair_more f v n p bs (Err x) c e = tt

ask_more : (f : Form) (v p : ℕ) (bs : List ℕ) (b : Bool) (x : RuleFault) (r : Reading) → (b ≡ true → Encodes f v p bs r) → Encodes f v p bs (ask b x r)
ask_more f v p bs true x r e = e refl
ask_more f v p bs false x r e = tt

high : (h l : ℕ) → l < 256 → (h * 256 + l) / 256 ≡ h
high h l k = omega arith

low : (h l : ℕ) → l < 256 → (h * 256 + l) % 256 ≡ l
low h l k = omega arith

-- two bytes are those of the number that they make
two_is : (h l : ℕ) (bs : List ℕ) → l < 256 → two (h * 256 + l) ++ bs ≡ h ∷ l ∷ bs
two_is h l bs k = ap₂ (λ x y. x ∷ y ∷ bs) (high h l k) (low h l k)

pub bytes_drop : (k : ℕ) (bs : List ℕ) → AllBytes bs → AllBytes (drop k bs)
bytes_drop zero bs a = a
bytes_drop (suc k) [] a = tt
bytes_drop (suc k) (b ∷ bs) a = bytes_drop k bs a.1

abbrev ReadsEncodings : Form → ℕ → ℕ → Type 0
ReadsEncodings f v m = (n p : ℕ) (bs : List ℕ) → length bs ≤ m → AllBytes bs → Encodes f v p bs (terms v n (commands f p bs))

by_front : (f : Form) (v m n p : ℕ) {b : ℕ} {bs : List ℕ} {c : Command} → Front f b bs c → length bs ≤ m → AllBytes bs → ReadsEncodings f v m
    → Encodes f v p (b ∷ bs) (terms v (suc n) (next p c (commands f (p + (1 + operands f c)) (drop (operands f c) bs))))
by_front f v m n p (atom_front {b = b} {h = h} {l = l} {bs = bs} k) s a again =
    let r = terms v n (commands f (p + 3) bs) in
    subst (λ x. Encodes f v p x (with_term (atom (h * 256 + l)) r)) (ap₂ (λ x y. x ∷ y) (sym k) (two_is h l bs a.1.0))
    (leaf_more f v p (atom (h * 256 + l)) bs r (omega (arith, a.0, a.1.0)) (again n (p + 3) bs (omega arith) a.1.1))
by_front f v m n p (pair_front {b = b} {bs = bs} k) s a again =
    let r = terms v (suc (suc n)) (commands f (p + 1) bs) in
    subst (λ x. Encodes f v p (x ∷ bs) (with_pair r)) (sym k)
    (pair_more f v n p bs r (counted v (suc (suc n)) (commands f (p + 1) bs)) (again (suc (suc n)) (p + 1) bs s a))
by_front Rules v m n p (variable_front {b = b} {x = x} {bs = bs} k) s a again =
    let r = terms v n (commands Rules (p + 2) bs) in
    subst (λ y. Encodes Rules v p (y ∷ x ∷ bs) (ask (ltb x v) (Undeclared p) (with_term (var x) r))) (sym k)
    (ask_more Rules v p (0x02 ∷ x ∷ bs) (ltb x v) (Undeclared p) (with_term (var x) r)
    (λ t. leaf_more Rules v p (var x) bs r (ltb-true x v t) (again n (p + 2) bs (omega arith) a.1)))
by_front Slips v m n p (unknown_front {b = b} {h = h} {l = l} {bs = bs} k) s a again =
    let x = h * 256 + l in
    let r = terms v n (commands Slips (p + 3) bs) in
    subst (λ y. Encodes Slips v p y (ask (ltb x v) (Undeclared p) (with_term (var x) r))) (ap₂ (λ x y. x ∷ y) (sym k) (two_is h l bs a.1.0))
    (ask_more Slips v p (encoding Slips (var x) ++ bs) (ltb x v) (Undeclared p) (with_term (var x) r)
    (λ t. leaf_more Slips v p (var x) bs r (ltb-true x v t) (again n (p + 3) bs (omega arith) a.1.1)))

within : (f : Form) (v m : ℕ) → ReadsEncodings f v m
within f v m zero p bs s a = record { rest = bs; split = refl; after = ap (λ n. commands f n bs) (sym (add-zero p)); fit = tt }
within f v m (suc n) p [] s a = tt
within f v zero (suc n) p (b ∷ bs) s a = absurd (omega arith)
within f v (suc m) (suc n) p (b ∷ bs) s a = by (command f p b bs) refl (λ n p bs s a. within f v m n p bs s a)
  where
    by : (r : Result Command CommandFault) → command f p b bs ≡ r → ReadsEncodings f v m → Encodes f v p (b ∷ bs) (terms v (suc n) (commands f p (b ∷ bs)))
    by (Ok c) e again =
        subst (λ cs. Encodes f v p (b ∷ bs) (terms v (suc n) cs)) (sym (one_more f p b bs c e))
        (by_front f v m n p (front f p b bs c e) (omega arith) a.1 again)
    by (Err x) e again = subst (λ cs. Encodes f v p (b ∷ bs) (terms v (suc n) cs)) (sym (no_more f p b bs x e)) tt

pub encoded : (f : Form) (v n p : ℕ) (bs : List ℕ) → AllBytes bs → Encodes f v p bs (terms v n (commands f p bs))
encoded f v n p bs a = within f v (length bs) n p bs (omega arith) a

-- ── an encoding is read ──

joins : (s t : Term) (r : Reading) → with_pair (with_term s (with_term t r)) ≡ with_term (pair s t) r
joins s t (Ok (ts, left)) = refl
joins s t (Err e) = refl

declared : (x v : ℕ) (e : RuleFault) (r : Reading) → x < v → ask (ltb x v) e r ≡ r
declared x v e r k = ap (λ b. ask b e r) (lt-ltb x v k)

whole : (n : ℕ) → n / 256 * 256 + n % 256 ≡ n
whole n = omega arith

pub decoded : (f : Form) (v n p : ℕ) (t : Term) (bs : List ℕ) → Fits v t
    → terms v (suc n) (commands f p (encoding f t ++ bs)) ≡ with_term t (terms v n (commands f (p + length (encoding f t)) bs))
decoded Rules v n p (var x) bs k =
    ap (terms v (suc n)) (one_more Rules p 0x02 (x ∷ bs) (Var x) refl)
    ∙ declared x v (Undeclared p) (with_term (var x) (terms v n (commands Rules (p + 2) bs))) k
decoded Slips v n p (var x) bs k =
    ap (terms v (suc n)) (one_more Slips p 0x04 (two x ++ bs) (Var (x / 256 * 256 + x % 256)) refl)
    ∙ ap (λ y. ask (ltb y v) (Undeclared p) (with_term (var y) (terms v n (commands Slips (p + 3) bs)))) (whole x)
    ∙ declared x v (Undeclared p) (with_term (var x) (terms v n (commands Slips (p + 3) bs))) k
decoded f v n p (atom a) bs k =
    ap (terms v (suc n)) (one_more f p 0x01 (two a ++ bs) (Atom (a / 256 * 256 + a % 256)) refl)
    ∙ ap (λ y. with_term (atom y) (terms v n (commands f (p + 3) bs))) (whole a)
decoded f v n p (pair s t) bs k =
    ap (terms v (suc n)) (one_more f p 0x03 ((encoding f s ++ encoding f t) ++ bs) Pair refl)
    ∙ ap (λ l. with_pair (terms v (suc (suc n)) (commands f (p + 1) l))) (append_assoc (encoding f s) (encoding f t) bs)
    ∙ ap with_pair (decoded f v (suc n) (p + 1) s (encoding f t ++ bs) k.0)
    ∙ ap (λ r. with_pair (with_term s r)) (decoded f v n (p + 1 + length (encoding f s)) t bs k.1)
    ∙ joins s t (terms v n (commands f (p + 1 + length (encoding f s) + length (encoding f t)) bs))
    ∙ ap (λ m. with_term (pair s t) (terms v n (commands f m bs))) (omega (arith, length-append (encoding f s) (encoding f t)))

pub decoded_all : (f : Form) (v p : ℕ) (ts : List Term) (bs : List ℕ) → AllFit v ts
    → terms v (length ts) (commands f p (encodings f ts ++ bs)) ≡ Ok (ts, commands f (p + length (encodings f ts)) bs)
decoded_all f v p [] bs k = ap (λ n. Ok ([], commands f n bs)) (sym (add-zero p))
decoded_all f v p (t ∷ ts) bs k =
    ap (λ l. terms v (suc (length ts)) (commands f p l)) (append_assoc (encoding f t) (encodings f ts) bs)
    ∙ decoded f v (length ts) p t (encodings f ts ++ bs) k.0
    ∙ ap (with_term t) (decoded_all f v (p + length (encoding f t)) ts bs k.1)
    ∙ ap (λ n. Ok (t ∷ ts, commands f n bs)) (omega (arith, length-append (encoding f t) (encodings f ts)))
