-- A rule or a query that stands by itself. Assumes nothing.
use Rattle.std.proofs.Common.{◌≡◌, ℕ, ◌+◌, Bool, true, false, eqb, leb, List, [], ◌∷◌, length, Ok, Err, Result, sym, refl, ap, ◌∙◌, arith}
use Rattle.terms.specs.Terms.{Term}
use Rattle.grammar.specs.declared.faults.CommandFault.{CommandFault}
use Rattle.grammar.specs.declared.faults.RuleFault.{RuleFault}
use Rattle.grammar.specs.declared.faults.RuleFault.TheVariants.{Command}
use Rattle.grammar.specs.declared.faults.SingleFault.{SingleFault}
use Rattle.grammar.specs.declared.faults.SingleFault.TheVariants.{Inside, Start, BytesLeft}
use Rattle.grammar.specs.Asking.{ask, go}
use Rattle.grammar.specs.Singles.{Header, header_size, header, body, single}
use Rattle.reading.specs.Views.{seen, single_header, single_end}

module _ {T V : Type 0} (byte : ℕ) (due : Header → ℕ) (make : ℕ → List Term → T) (show : T → V) where
  -- what is shown under a header
  abbrev under : Header → Result V RuleFault
  under h = go (body (due h) 0 h) (λ e. e) (λ ts. Ok (show (make h.variables ts)))

  -- header, terms and end, one after the other
  abbrev rest : Header → Result T SingleFault
  rest h = go (body (due h) 0 h) Inside (λ ts. ask (leb (length h.rest) h.size) (BytesLeft (header_size + h.size)) (Ok (make h.variables ts)))

  headed : (bs : List ℕ) → single byte due make bs ≡ go (single_header byte bs) (λ e. e) rest
  headed [] = refl
  headed (b ∷ bs) = by (eqb b byte) (header 0 bs)
    where
      by : (t : Bool) (r : Result Header CommandFault) → ask t (Start 0) (go r (λ e. Inside (Command e)) rest) ≡ go (ask t (Start 0) (go r (λ e. Inside (Command e)) (λ h. Ok h))) (λ e. e) rest
      by true (Ok h) = refl
      by true (Err e) = refl
      by false r = refl

  at_header : (bs : List ℕ) (h : Header) → Ok h ≡ single_header byte bs → single byte due make bs ≡ rest h
  at_header bs h e = headed bs ∙ ap (λ r. go r (λ e. e) rest) (sym e)

  module _ (bs : List ℕ) (h : Header) (e : Ok h ≡ single_header byte bs) where
    pub body_refused : {R : Type 0} (f : R → V) (r : Result R SingleFault) (x : SingleFault) (y : RuleFault) → r ≡ Err x → x ≡ Inside y → Err y ≡ under h
        → seen f r ≡ seen show (single byte due make bs)
    body_refused f r x y i j k = ap (seen f) (i ∙ ap Err j) ∙ by (body (due h) 0 h) k ∙ ap (seen show) (sym (at_header bs h e))
      where
        by : (s : Result (List Term) RuleFault) → Err y ≡ go s (λ e. e) (λ ts. Ok (show (make h.variables ts)))
            → Err (Inside y) ≡ seen show (go s Inside (λ ts. ask (leb (length h.rest) h.size) (BytesLeft (header_size + h.size)) (Ok (make h.variables ts))))
        by (Ok ts) k = let z : ◌≡◌ {A = ℕ} 0 1 = cc in absurd (omega arith)
        by (Err z) k = let same : y ≡ z = cc in ap (λ z. Err (Inside z)) same

    pub end_refused : {R : Type 0} (f : R → V) (r : Result R SingleFault) (x y : SingleFault) (v : V) → r ≡ Err x → x ≡ y → Ok v ≡ under h → Err y ≡ single_end h
        → seen f r ≡ seen show (single byte due make bs)
    end_refused f r x y v i j k l = ap (seen f) (i ∙ ap Err j) ∙ by (body (due h) 0 h) (leb (length h.rest) h.size) k l ∙ ap (seen show) (sym (at_header bs h e))
      where
        by : (s : Result (List Term) RuleFault) (t : Bool) → Ok v ≡ go s (λ e. e) (λ ts. Ok (show (make h.variables ts)))
            → Err y ≡ ask t (BytesLeft (header_size + h.size)) (Ok (tt {0}))
            → Err y ≡ seen show (go s Inside (λ ts. ask t (BytesLeft (header_size + h.size)) (Ok (make h.variables ts))))
        by (Ok ts) true k l = let z : ◌≡◌ {A = ℕ} 0 1 = cc in absurd (omega arith)
        by (Ok ts) false k l = let same : y ≡ BytesLeft (header_size + h.size) = cc in ap Err same
        by (Err z) t k l = let z : ◌≡◌ {A = ℕ} 0 1 = cc in absurd (omega arith)

    pub read : (v : V) (u : Unit {0}) → Ok v ≡ under h → Ok u ≡ single_end h → Ok v ≡ seen show (single byte due make bs)
    read v u k l = by (body (due h) 0 h) (leb (length h.rest) h.size) k l ∙ ap (seen show) (sym (at_header bs h e))
      where
        by : (s : Result (List Term) RuleFault) (t : Bool) → Ok v ≡ go s (λ e. e) (λ ts. Ok (show (make h.variables ts)))
            → Ok u ≡ ask t (BytesLeft (header_size + h.size)) (Ok (tt {0}))
            → Ok v ≡ seen show (go s Inside (λ ts. ask t (BytesLeft (header_size + h.size)) (Ok (make h.variables ts))))
        by (Ok ts) true k l = let same : v ≡ show (make h.variables ts) = cc in ap Ok same
        by (Ok ts) false k l = let z : ◌≡◌ {A = ℕ} 0 1 = cc in absurd (omega arith)
        by (Err z) t k l = let z : ◌≡◌ {A = ℕ} 0 1 = cc in absurd (omega arith)
