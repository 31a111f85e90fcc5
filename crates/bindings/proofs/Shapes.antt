-- The form of a meaning, by what stands in the text. Assumes nothing.
use Rattle.std.proofs.Common.{◌≡◌, ℕ, suc, ◌+◌, ◌*◌, ◌<◌, Bool, true, false, cond, List, get_or, sym, ap, ◌∙◌, subst, ap₂, arith, Some, None}
use Rattle.terms.specs.Terms.{Term, var, atom, pair}
use Rattle.unification.specs.Variables.{occurs}
use Rattle.bindings.specs.Meanings.{meaning, lookups, size}
use Rattle.bindings.proofs.Meanings.{meaning_atom, meaning_pair}
use Rattle.bindings.specs.declared.Binding.{Binding}
use Rattle.bindings.specs.Cells.{Cell}
use Rattle.bindings.specs.declared.TermAt.{TermAt}
use Rattle.bindings.specs.Texts.{Spans, tree, term, Stands}
use Rattle.bindings.specs.Trails.{trail, Sound, TermIn, meaning_at}
use Rattle.bindings.specs.Shapes.{PairAt}
use Rattle.bindings.proofs.Texts.{inside, stands_atom, stands_variable, stands_pair, Parts}
use Rattle.bindings.proofs.Links.{sound_free, sound_bound}

-- What stands at q means what stands at p does, with fewer look-ups.
pub record Onward (text : List ℕ) (n : ℕ) (cs : List Cell) (h p l q k : ℕ) : Type 0 where
  pub stands : Stands text n q k
  pub means : meaning (trail text cs h) (term text q k) ≡ meaning (trail text cs h) (term text p l)
  pub less : lookups (trail text cs h) (term text q k) < lookups (trail text cs h) (term text p l)

module _ {text : List ℕ} {n : ℕ} {cs : List Cell} {h p l : ℕ} (sound : Sound text n cs h) where
  pub form_atom : Stands text n p l → get_or text p 0 ≡ 1
      → meaning (trail text cs h) (term text p l) ≡ atom (get_or text (p + 1) 0 * 256 + get_or text (p + 2) 0)
  form_atom s e = ap (meaning (trail text cs h)) (stands_atom s e).1 ∙ meaning_atom (trail text cs h) _

  pub form_pair : (f : Parts text n p l)
      → meaning (trail text cs h) (term text p l) ≡ pair (meaning (trail text cs h) (term text (p + 1) l)) (meaning (trail text cs h) (term text f.mid l))
  form_pair f = ap (meaning (trail text cs h)) f.is ∙ meaning_pair (trail text cs h) (term text (p + 1) l) (term text f.mid l)

  pub form_free : Stands text n p l → get_or text p 0 ≡ 2 → get_or cs (l + get_or text (p + 1) 0) None ≡ None
      → meaning (trail text cs h) (term text p l) ≡ var (l + get_or text (p + 1) 0)
  form_free s e f = ap (meaning (trail text cs h)) (stands_variable s e).1 ∙ sound_free sound (l + get_or text (p + 1) 0) f

  pub form_bound : (o : Binding) → Stands text n p l → get_or text p 0 ≡ 2 → get_or cs (l + get_or text (p + 1) 0) None ≡ Some o → Onward text n cs h p l o.term.place o.term.level
  form_bound o s e f =
      let v : term text p l ≡ var (l + get_or text (p + 1) 0) = (stands_variable s e).1 in
      let b = sound_bound sound (l + get_or text (p + 1) 0) o f in
      let g : lookups (trail text cs h) (term text p l) ≡ suc (lookups (trail text cs h) (term text o.term.place o.term.level)) = ap (lookups (trail text cs h)) v ∙ b.1 in
      record { stands = b.2; means = sym (ap (meaning (trail text cs h)) v ∙ b.0); less = omega arith }

-- The parts of what shows as a pair.
pub record Split (text : List ℕ) (n : ℕ) (cs : List Cell) (h : ℕ) (m : Term) (p : TermAt) : Type 0 where
  pub mid : ℕ
  pub room : p.place < 65535
  pub spans : Spans text (p.place + 1) (tree text (p.place + 1)) mid
  pub first : Stands text n (p.place + 1) p.level
  pub rest : Stands text n mid p.level
  pub is : m ≡ pair (meaning (trail text cs h) (term text (p.place + 1) p.level)) (meaning (trail text cs h) (term text mid p.level))

pub split : {text : List ℕ} {n : ℕ} {cs : List Cell} {h : ℕ} {m : Term} {p : TermAt} → Sound text n cs h → TermIn text n p × PairAt text p.place × (m ≡ meaning_at text cs h p) → Split text n cs h m p
split {text} {n} {cs} {h} {m} {p} g w =
    let f = stands_pair w.0 w.1.not_atom w.1.not_variable in
    let i = inside text (p.place + 1) (tree text (p.place + 1)) f.mid f.spans in
    record { mid = f.mid; room = omega (arith, g.short, f.before_end); spans = f.spans; first = f.first; rest = f.rest; is = w.2 ∙ form_pair g f }

-- A part that is known by its place and level.
pub part_stands : {text : List ℕ} {n q l : ℕ} (r : TermAt) → r.place ≡ q → r.level ≡ l → Stands text n q l → Stands text n r.place r.level
part_stands {text} {n} {q} {l} r e f s = subst (λ (x : ℕ). Stands text n x r.level) (sym e) (subst (λ (x : ℕ). Stands text n q x) (sym f) s)

pub part_term : (text : List ℕ) {q l : ℕ} (r : TermAt) → r.place ≡ q → r.level ≡ l → term text q l ≡ term text r.place r.level
part_term text r e f = ap₂ (λ (x y : ℕ). term text x y) (sym e) (sym f)

pub split_is : {text : List ℕ} {n : ℕ} {cs : List Cell} {h : ℕ} {m : Term} {p : TermAt} (s : Split text n cs h m p) (f r : TermAt)
    → f.place ≡ p.place + 1 → f.level ≡ p.level → r.place ≡ s.mid → r.level ≡ p.level → m ≡ pair (meaning_at text cs h f) (meaning_at text cs h r)
split_is {text} {n} {cs} {h} s f r a b c d =
    s.is ∙ ap₂ (λ (x y : Term). pair (meaning (trail text cs h) x) (meaning (trail text cs h) y)) (part_term text f a b) (part_term text r c d)

-- The first alone.
pub split_first : {text : List ℕ} {n : ℕ} {cs : List Cell} {h : ℕ} {m : Term} {p : TermAt} (s : Split text n cs h m p) (f : TermAt)
    → f.place ≡ p.place + 1 → f.level ≡ p.level → m ≡ pair (meaning_at text cs h f) (meaning (trail text cs h) (term text s.mid p.level))
split_first {text} {n} {cs} {h} {m} {p} s f a b =
    s.is ∙ ap (λ (x : Term). pair (meaning (trail text cs h) x) (meaning (trail text cs h) (term text s.mid p.level))) (part_term text f a b)

-- The parts are smaller.
pub size_first : (m f r : Term) → m ≡ pair f r → size f < size m
size_first m f r e = let z : size m ≡ suc (size f + size r) = ap size e in omega arith

pub size_rest : (m f r : Term) → m ≡ pair f r → size r < size m
size_rest m f r e = let z : size m ≡ suc (size f + size r) = ap size e in omega arith

-- A variable occurs in a pair where it does in the first part, or else where it does in the rest.
pub occurs_yes : (x : ℕ) (m f r : Term) → m ≡ pair f r → occurs x f ≡ true → occurs x m ≡ true
occurs_yes x m f r e h = ap (occurs x) e ∙ ap (λ (b : Bool). cond b true (occurs x r)) h

pub occurs_no : (x : ℕ) (m f r : Term) → m ≡ pair f r → occurs x f ≡ false → occurs x m ≡ occurs x r
occurs_no x m f r e h = ap (occurs x) e ∙ ap (λ (b : Bool). cond b true (occurs x r)) h
