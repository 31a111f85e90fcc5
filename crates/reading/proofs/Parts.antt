-- The head and the goals in a frame. Assumes nothing.
use Rattle.std.proofs.Common.{◌≡◌, ℕ, zero, suc, ◌+◌, ◌-◌, Bool, true, false, ◌&&◌, leb, List, [], ◌∷◌, ◌++◌, length, get_or, take, drop, Ok, Err, Result, sym, refl, ap, ◌∙◌, subst, ap₂, append-nil, arith, length-append, w8, Fits}
use Rattle.std.proofs.lemmas.List.{take_at, drop_at}
use Rattle.terms.specs.declared.Form.{Form}
use Rattle.terms.specs.declared.Form.TheVariants.{Rules}
use Rattle.terms.specs.Terms.{Term}
use Rattle.terms.specs.Bytes.{encodings}
use Rattle.grammar.specs.declared.faults.RuleFault.{RuleFault}
use Rattle.grammar.specs.declared.faults.RuleFault.TheVariants.{Variables, Goals, Length, LengthLeft}
use Rattle.grammar.specs.Asking.{ask, go}
use Rattle.grammar.specs.Encodings.{AllBytes}
use Rattle.grammar.specs.TermCommands.{Commands, end, unfit, next, commands, terms}
use Rattle.grammar.specs.Singles.{Header, header_size, most_variables, most_goals, longest, used_up, body}
use Rattle.grammar.proofs.Taking.{place_of, place_first}
use Rattle.grammar.proofs.Counting.{Reading, Counted, counted, with_terms, then_terms, plus, then_others}
use Rattle.grammar.proofs.Encoded.{Encoded, Encodes, encoded, bytes_drop}
use Rattle.grammar.proofs.Framed.{none_left}
use Rattle.reading.specs.Taking.{left, Went, over}
use Rattle.reading.specs.Views.{seen, frame_bytes, parts_of, parts_read}

-- ── under a header ──

ask_go : {T U E : Type 0} (b : Bool) (e : E) (r : Result T E) (more : T → Result U E) → ask b e (go r (λ e. e) more) ≡ go (ask b e r) (λ e. e) more
ask_go true e r more = refl
ask_go false e r more = refl

-- the terms are read in the frame
pub framed : (due p : ℕ) (h : Header) → body due p h ≡ go (frame_bytes p h) (λ e. e) (λ bs. used_up (terms h.variables due (commands Rules (p + header_size) bs)))
framed due p h =
    let more : List ℕ → Result (List Term) RuleFault = λ bs. used_up (terms h.variables due (commands Rules (p + header_size) bs)) in
    let third = leb h.size longest && leb h.size (length h.rest) in
    let bytes = take h.size h.rest in
    ap (λ r. ask (leb h.variables most_variables) (Variables p) (ask (leb h.goals most_goals) (Goals p) r)) (ask_go third (Length p) (Ok bytes) more)
    ∙ ap (ask (leb h.variables most_variables) (Variables p)) (ask_go (leb h.goals most_goals) (Goals p) (ask third (Length p) (Ok bytes)) more)
    ∙ ask_go (leb h.variables most_variables) (Variables p) (ask (leb h.goals most_goals) (Goals p) (ask third (Length p) (Ok bytes))) more

-- ── what is left, and what is used up ──

-- n terms and then m, as a sum
sum_is : (m n : ℕ) → plus m n ≡ m + n
sum_is zero n = omega arith
sum_is (suc m) n = ap suc (sum_is m n) ∙ omega arith

both : (v m n : ℕ) (cs : Commands) → terms v (m + n) cs ≡ then_terms (terms v m cs) (terms v n)
both v m n cs = ap (λ k. terms v k cs) (sym (sum_is m n)) ∙ then_others v m n cs

-- commands go on at their place
goes_over : (f : Form) (p b : ℕ) (bs : List ℕ) (ts : List Term) → used_up (Ok (ts, commands f p (b ∷ bs))) ≡ Err (LengthLeft p)
goes_over f p b bs ts = by (commands f p (b ∷ bs)) refl
  where
    by : (cs : Commands) → commands f p (b ∷ bs) ≡ cs → used_up (Ok (ts, cs)) ≡ Err (LengthLeft p)
    by (end q) e = let z : length (b ∷ bs) ≡ 0 = ap length (none_left f p q (b ∷ bs) e) in absurd (omega arith)
    by (unfit x) e = ap (λ n. Err (LengthLeft n)) (ap place_of (sym e) ∙ place_first f p (b ∷ bs))
    by (next q c cs) e = ap (λ n. Err (LengthLeft n)) (ap place_of (sym e) ∙ place_first f p (b ∷ bs))

-- ── the two parts ──

fails_left : (r : Reading) (e : RuleFault) → left r ≡ Err e → r ≡ Err e
fails_left (Ok (ts, cs)) e h = let z : ◌≡◌ {A = ℕ} 0 1 = cc in absurd (omega arith)
fails_left (Err x) e h = ap Err (let same : x ≡ e = cc in same)

-- what was read, where it is known what it leaves
pub record Left (r : Reading) (cs : Commands) : Type 0 where
  pub ts : List Term
  pub is : r ≡ Ok (ts, cs)

leaves : (r : Reading) (cs : Commands) → left r ≡ Ok cs → Left r cs
leaves (Ok (ts, ds)) cs h = let same : ds ≡ cs = cc in record { ts = ts; is = ap (λ x. Ok (ts, x)) same }
leaves (Err x) cs h = let z : ◌≡◌ {A = ℕ} 0 1 = cc in absurd (omega arith)

-- a frame of a head, which has m terms, and n goals: its terms, and where they stand
pub record Split (v m n p q : ℕ) (frame : List ℕ) : Type 0 where
  pub ts : List Term
  pub read : used_up (terms v (m + n) (commands Rules p frame)) ≡ Ok ts
  pub count : length ts ≡ m + n
  pub head : take (q - p) frame ≡ encodings Rules (take m ts)
  pub goals : drop (q - p) frame ≡ encodings Rules (drop m ts)

module _ (v m n p : ℕ) (frame : List ℕ) where
  pub head_fails : (e : RuleFault) → left (terms v m (commands Rules p frame)) ≡ Err e → used_up (terms v (m + n) (commands Rules p frame)) ≡ Err e
  head_fails e h =
      ap used_up (both v m n (commands Rules p frame)) ∙ ap (λ r. used_up (then_terms r (terms v n))) (fails_left (terms v m (commands Rules p frame)) e h)

  module _ (c : Commands) (first : left (terms v m (commands Rules p frame)) ≡ Ok c) where
    at_goals : used_up (terms v (m + n) (commands Rules p frame)) ≡ used_up (with_terms (leaves (terms v m (commands Rules p frame)) c first).ts (terms v n c))
    at_goals =
        ap used_up (both v m n (commands Rules p frame))
        ∙ ap (λ r. used_up (then_terms r (terms v n))) (leaves (terms v m (commands Rules p frame)) c first).is

    pub goals_fail : (e : RuleFault) → left (terms v n c) ≡ Err e → used_up (terms v (m + n) (commands Rules p frame)) ≡ Err e
    goals_fail e h = at_goals ∙ ap (λ r. used_up (with_terms (leaves (terms v m (commands Rules p frame)) c first).ts r)) (fails_left (terms v n c) e h)

    at_end : (d : Commands) (second : left (terms v n c) ≡ Ok d)
        → used_up (terms v (m + n) (commands Rules p frame)) ≡ used_up (Ok ((leaves (terms v m (commands Rules p frame)) c first).ts ++ (leaves (terms v n c) d second).ts, d))
    at_end d second = at_goals ∙ ap (λ r. used_up (with_terms (leaves (terms v m (commands Rules p frame)) c first).ts r)) (leaves (terms v n c) d second).is

    pub end_fails : (r b : ℕ) (es : List ℕ) → left (terms v n c) ≡ Ok (commands Rules r (b ∷ es)) → used_up (terms v (m + n) (commands Rules p frame)) ≡ Err (LengthLeft r)
    end_fails r b es second = at_end (commands Rules r (b ∷ es)) second ∙ goes_over Rules r b es _

  pub splits : (q : ℕ) (ds : List ℕ) (r : ℕ) → AllBytes frame → left (terms v m (commands Rules p frame)) ≡ Ok (commands Rules q ds) → Went p frame q ds
      → left (terms v n (commands Rules q ds)) ≡ Ok (end r) → Split v m n p q frame
  splits q ds r all first went second =
      let a = leaves (terms v m (commands Rules p frame)) (commands Rules q ds) first in
      let b = leaves (terms v n (commands Rules q ds)) (end r) second in
      let x : Encoded Rules v p frame a.ts (commands Rules q ds) = subst (Encodes Rules v p frame) a.is (encoded Rules v m p frame all) in
      let bytes : AllBytes ds = subst AllBytes (sym went.front) (bytes_drop (q - p) frame all) in
      let y : Encoded Rules v q ds b.ts (end r) = subst (Encodes Rules v q ds) b.is (encoded Rules v n q ds bytes) in
      let to : q ≡ p + length (encodings Rules a.ts) =
      sym (place_first Rules q ds) ∙ ap place_of x.after ∙ place_first Rules (p + length (encodings Rules a.ts)) x.rest in
      let long : length (encodings Rules a.ts) ≡ q - p = omega arith in
      let head_count : length a.ts ≡ m = subst (Counted m) a.is (counted v m (commands Rules p frame)) in
      let goal_count : length b.ts ≡ n = subst (Counted n) b.is (counted v n (commands Rules q ds)) in
      record {
        ts = a.ts ++ b.ts;
        read = at_end (commands Rules q ds) first (end r) second;
        count = length-append a.ts b.ts ∙ ap₂ (λ i j. i + j) head_count goal_count;
        head =
            ap (take (q - p)) x.split
            ∙ take_at (encodings Rules a.ts) x.rest (q - p) long
            ∙ ap (encodings Rules) (sym (take_at a.ts b.ts m head_count));
        goals =
            sym went.front
            ∙ y.split
            ∙ ap (λ l. encodings Rules b.ts ++ l) (none_left Rules (q + length (encodings Rules b.ts)) r y.rest (sym y.after))
            ∙ append-nil (encodings Rules b.ts)
            ∙ ap (encodings Rules) (sym (drop_at a.ts b.ts m head_count));
      }

-- ── for the code ──

pub known : (bs : List ℕ) → ((i : ℕ) → Fits w8 (get_or bs i 0)) → AllBytes bs
known [] h = tt
known (b ∷ bs) h = (omega (arith, (h 0).fits), known bs (λ i. h (suc i)))

over_end : (f : Form) (p : ℕ) (bs : List ℕ) (x : Unit {0}) → Ok x ≡ over p bs → commands f p bs ≡ end p
over_end f p [] x e = refl
over_end f p (b ∷ bs) x e = let z : ◌≡◌ {A = ℕ} 0 1 = cc in absurd (omega arith)

-- a frame at p, and what comes of its parts; r is what the code returns
module _ (v m n p : ℕ) (frame : List ℕ) where
  fails : {T : Type 0} (f : T → List ℕ × List ℕ) (r : Result T RuleFault) (x e : RuleFault) → r ≡ Err x → x ≡ e
      → used_up (terms v (m + n) (commands Rules p frame)) ≡ Err e → seen f r ≡ parts_read v m n p frame
  fails f r x e i j h =
      ap (seen f) (i ∙ ap Err j)
      ∙ ap (λ s. go s (λ e. e) (parts_of m)) (sym h)

  pub head_refused : {T : Type 0} (f : T → List ℕ × List ℕ) (r : Result T RuleFault) (x e : RuleFault) → r ≡ Err x → x ≡ e
      → left (terms v m (commands Rules p frame)) ≡ Err e → seen f r ≡ parts_read v m n p frame
  head_refused f r x e i j h = fails f r x e i j (head_fails v m n p frame e h)

  module _ (q : ℕ) (ds : List ℕ) (first : left (terms v m (commands Rules p frame)) ≡ Ok (commands Rules q ds)) where
    pub goals_refused : {T : Type 0} (f : T → List ℕ × List ℕ) (r : Result T RuleFault) (x e : RuleFault) → r ≡ Err x → x ≡ e
        → left (terms v n (commands Rules q ds)) ≡ Err e → seen f r ≡ parts_read v m n p frame
    goals_refused f r x e i j h = fails f r x e i j (goals_fail v m n p frame (commands Rules q ds) first e h)

    module _ (t : ℕ) (es : List ℕ) (second : left (terms v n (commands Rules q ds)) ≡ Ok (commands Rules t es)) where
      pub end_refused : {T : Type 0} (f : T → List ℕ × List ℕ) (r : Result T RuleFault) (x e : RuleFault) → r ≡ Err x → x ≡ e
          → Err e ≡ over t es → seen f r ≡ parts_read v m n p frame
      end_refused f r x e i j h = by es second h
        where
          by : (es : List ℕ) → left (terms v n (commands Rules q ds)) ≡ Ok (commands Rules t es) → Err e ≡ over t es → seen f r ≡ parts_read v m n p frame
          by [] k h = let z : ◌≡◌ {A = ℕ} 0 1 = cc in absurd (omega arith)
          by (b ∷ cs) k h =
              let found : e ≡ LengthLeft t = cc in
              fails f r x e i j (end_fails v m n p frame (commands Rules q ds) first t b cs k ∙ ap Err (sym found))

      pub accepted : (x : Unit {0}) (head goals : List ℕ) → AllBytes frame → Went p frame q ds → Ok x ≡ over t es
          → head ≡ take (q - p) frame → goals ≡ drop (q - p) frame → Ok (head, goals) ≡ parts_read v m n p frame
      accepted x head goals all went h i j =
          let z = splits v m n p frame q ds t all first went (second ∙ ap Ok (over_end Rules t es x h)) in
          ap Ok (ap₂ (λ a b. (a, b)) (i ∙ z.head) (j ∙ z.goals))
          ∙ ap (λ s. go s (λ e. e) (parts_of m)) (sym z.read)
