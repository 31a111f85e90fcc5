-- What is read under a header is what stands there, and the other way round. Assumes nothing.
use Rattle.std.proofs.Common.{◌≡◌, ℕ, zero, suc, ◌+◌, ◌*◌, ◌/◌, ◌%◌, ◌<◌, ◌≤◌, Bool, true, false, ◌&&◌, eqb, leb, List, [], ◌∷◌, ◌++◌, length, take, drop, Ok, Err, Result, sym, refl, ap, ◌∙◌, subst, ap₂, append-nil, arith, length-append, take-append-drop}
use Rattle.std.proofs.lemmas.Bool.{leb-true, le-leb, eqb-true, eq-eqb, and_parts, and_from}
use Rattle.std.proofs.lemmas.List.{take_at, length-take-le, take_all}
use Rattle.terms.specs.declared.Form.{Form}
use Rattle.terms.specs.declared.Form.TheVariants.{Rules}
use Rattle.terms.specs.Terms.{Term}
use Rattle.terms.specs.Bytes.{two, encodings, AllFit}
use Rattle.grammar.specs.declared.commands.Command.{Command}
use Rattle.grammar.specs.declared.faults.CommandFault.{CommandFault}
use Rattle.grammar.specs.declared.faults.RuleFault.TheVariants.{Command as InCommand, Variables, Goals, Length}
use Rattle.grammar.specs.declared.faults.SingleFault.{SingleFault}
use Rattle.grammar.specs.declared.faults.SingleFault.TheVariants.{Inside, Start, BytesLeft}
use Rattle.grammar.specs.Asking.{ask, go}
use Rattle.grammar.specs.TermCommands.{command, operands, end, unfit, next, taken, commands_past, commands, terms}
use Rattle.grammar.specs.Singles.{most_variables, most_goals, longest, Header, header_size, header, used_up, body, single}
use Rattle.grammar.specs.Encodings.{AllBytes, framed, Within}
use Rattle.grammar.proofs.Counting.{Reading, Counted, counted}
use Rattle.grammar.proofs.Encoded.{Encoded, Encodes, encoded, decoded_all}

-- ── questions ──

pub ask_yes : {T E : Type 0} (b : Bool) (e : E) (r : Result T E) (x : T) → ask b e r ≡ Ok x → (b ≡ true) × (r ≡ Ok x)
ask_yes true e r x h = (refl, h)
ask_yes false e r x h = let z : ◌≡◌ {A = ℕ} 0 1 = cc in absurd (omega arith)

pub asked : {T E : Type 0} (b : Bool) (e : E) (r : Result T E) → b ≡ true → ask b e r ≡ r
asked b e r h = ap (λ b. ask b e r) h

pub go_yes : {T U E F : Type 0} (r : Result T E) (wrap : E → F) (more : T → Result U F) (y : U) → go r wrap more ≡ Ok y → (x : T) × (r ≡ Ok x) × (more x ≡ Ok y)
go_yes (Ok x) wrap more y h = (x, refl, h)
go_yes (Err e) wrap more y h = let z : ◌≡◌ {A = ℕ} 0 1 = cc in absurd (omega arith)

-- ── the frame ──

used_end : (r : Reading) (ts : List Term) → used_up r ≡ Ok ts → (q : ℕ) × (r ≡ Ok (ts, end q))
used_end (Ok (us, end q)) ts h = (q, ap (λ us. Ok (us, end q)) (let same : us ≡ ts = cc in same))
used_end (Ok (us, unfit x)) ts h = let z : ◌≡◌ {A = ℕ} 0 1 = cc in absurd (omega arith)
used_end (Ok (us, next p c cs)) ts h = let z : ◌≡◌ {A = ℕ} 0 1 = cc in absurd (omega arith)
used_end (Err e) ts h = let z : ◌≡◌ {A = ℕ} 0 1 = cc in absurd (omega arith)

-- only nothing has nothing to come
pub none_left : (f : Form) (p q : ℕ) (bs : List ℕ) → commands f p bs ≡ end q → bs ≡ []
none_left f p q [] e = refl
none_left f p q (b ∷ bs) e = by (command f p b bs) e
  where
    by : (r : Result Command CommandFault) → taken p r (λ c. commands_past f (operands f c) (p + 1) bs) ≡ end q → (b ∷ bs) ≡ []
    by (Ok c) e = let z : ◌≡◌ {A = ℕ} 0 1 = cc in absurd (omega arith)
    by (Err x) e = let z : ◌≡◌ {A = ℕ} 0 1 = cc in absurd (omega arith)

-- a frame that was read is the encoding of its terms
frame_is : (v n p : ℕ) (bs : List ℕ) (ts : List Term) → AllBytes bs → used_up (terms v n (commands Rules p bs)) ≡ Ok ts
    → (bs ≡ encodings Rules ts) × (length ts ≡ n) × AllFit v ts
frame_is v n p bs ts a h =
    let u = used_end (terms v n (commands Rules p bs)) ts h in
    let x : Encoded Rules v p bs ts (end u.0) = subst (Encodes Rules v p bs) u.1 (encoded Rules v n p bs a) in (
      x.split ∙ ap (λ l. encodings Rules ts ++ l) (none_left Rules (p + length (encodings Rules ts)) u.0 x.rest (sym x.after)) ∙ append-nil (encodings Rules ts),
      subst (Counted n) u.1 (counted v n (commands Rules p bs)),
      x.fit,
    )

-- ── under a header ──

pub record Body (due : ℕ) (h : Header) (ts : List Term) : Type 0 where
  pub few_variables : h.variables ≤ most_variables
  pub few_goals : h.goals ≤ most_goals
  pub short : h.size ≤ longest
  pub inside : h.size ≤ length h.rest
  pub bytes : take h.size h.rest ≡ encodings Rules ts
  pub count : length ts ≡ due
  pub fit : AllFit h.variables ts

pub bytes_take : (k : ℕ) (bs : List ℕ) → AllBytes bs → AllBytes (take k bs)
bytes_take zero bs a = tt
bytes_take (suc k) [] a = tt
bytes_take (suc k) (b ∷ bs) a = (a.0, bytes_take k bs a.1)

pub body_is : (due p : ℕ) (h : Header) (ts : List Term) → AllBytes h.rest → body due p h ≡ Ok ts → Body due h ts
body_is due p h ts a e =
    let q5 = ask_yes (leb h.variables most_variables) (Variables p) _ ts e in
    let q6 = ask_yes (leb h.goals most_goals) (Goals p) _ ts q5.1 in
    let q7 = ask_yes (leb h.size longest && leb h.size (length h.rest)) (Length p) _ ts q6.1 in
    let both = and_parts (leb h.size longest) (leb h.size (length h.rest)) q7.0 in
    let f = frame_is h.variables due (p + header_size) (take h.size h.rest) ts (bytes_take h.size h.rest a) q7.1 in
    record {
      few_variables = leb-true h.variables most_variables q5.0;
      few_goals = leb-true h.goals most_goals q6.0;
      short = leb-true h.size longest both.0;
      inside = leb-true h.size (length h.rest) both.1;
      bytes = f.0;
      count = f.1;
      fit = f.2;
    }

pub body_reads : (due p : ℕ) (h : Header) (ts : List Term) → Body due h ts → body due p h ≡ Ok ts
body_reads due p h ts b =
    asked (leb h.variables most_variables) (Variables p) _ (le-leb h.variables most_variables b.few_variables)
    ∙ asked (leb h.goals most_goals) (Goals p) _ (le-leb h.goals most_goals b.few_goals)
    ∙ asked (leb h.size longest && leb h.size (length h.rest)) (Length p) _
    (and_from (leb h.size longest) (leb h.size (length h.rest)) (le-leb h.size longest b.short) (le-leb h.size (length h.rest) b.inside))
    ∙ ap (λ n. used_up (terms h.variables n (commands Rules (p + header_size) (take h.size h.rest)))) (sym b.count)
    ∙ ap (λ l. used_up (terms h.variables (length ts) (commands Rules (p + header_size) l))) (b.bytes ∙ sym (append-nil (encodings Rules ts)))
    ∙ ap used_up (decoded_all Rules h.variables (p + header_size) ts [] b.fit)

-- ── the header ──

-- the bytes of a header after its first
abbrev pub header_bytes : Header → List ℕ
header_bytes h = h.variables ∷ h.goals ∷ (two h.size ++ h.rest)

high : (h l : ℕ) → l < 256 → (h * 256 + l) / 256 ≡ h
high h l k = omega arith

low : (h l : ℕ) → l < 256 → (h * 256 + l) % 256 ≡ l
low h l k = omega arith

pub header_is : (p : ℕ) (bs : List ℕ) (h : Header) → AllBytes bs → header p bs ≡ Ok h → (bs ≡ header_bytes h) × AllBytes h.rest
header_is p [] h a e = let z : ◌≡◌ {A = ℕ} 0 1 = cc in absurd (omega arith)
header_is p (v ∷ []) h a e = let z : ◌≡◌ {A = ℕ} 0 1 = cc in absurd (omega arith)
header_is p (v ∷ g ∷ []) h a e = let z : ◌≡◌ {A = ℕ} 0 1 = cc in absurd (omega arith)
header_is p (v ∷ g ∷ x ∷ []) h a e = let z : ◌≡◌ {A = ℕ} 0 1 = cc in absurd (omega arith)
header_is p (v ∷ g ∷ x ∷ y ∷ rest) h a e =
    let same : h ≡ record { variables = v; goals = g; size = x * 256 + y; rest = rest } = cc in (
      ap₂ (λ i j. v ∷ g ∷ i ∷ j ∷ rest) (sym (high x y a.1.1.1.0)) (sym (low x y a.1.1.1.0)) ∙ ap header_bytes (sym same),
      subst (λ k. AllBytes k.rest) (sym same) a.1.1.1.1,
    )

pub header_reads : (p : ℕ) (h : Header) → header p (header_bytes h) ≡ Ok h
header_reads p h =
    let whole : h.size / 256 * 256 + h.size % 256 ≡ h.size = omega arith in
    ap (λ n. Ok (record { variables = h.variables; goals = h.goals; size = n; rest = h.rest })) whole

-- a header over the encoding of some terms, and bytes after them
abbrev pub over_terms : ℕ → ℕ → List Term → List ℕ → Header
over_terms v g ts more = record { variables = v; goals = g; size = length (encodings Rules ts); rest = encodings Rules ts ++ more }

pub within_body : (due v g : ℕ) (ts : List Term) (more : List ℕ) → Within v g ts → length ts ≡ due → Body due (over_terms v g ts more) ts
within_body due v g ts more w c =
    record {
      few_variables = w.few_variables;
      few_goals = w.few_goals;
      short = w.short;
      inside = omega (arith, length-append (encodings Rules ts) more);
      bytes = take_at (encodings Rules ts) more (length (encodings Rules ts)) refl;
      count = c;
      fit = w.declared;
    }

-- a body stands under its header, whose length is that of its terms
pub body_within : (due : ℕ) (h : Header) (ts : List Term) → Body due h ts
    → Within h.variables h.goals ts × (h.size ≡ length (encodings Rules ts)) × (h.rest ≡ encodings Rules ts ++ drop h.size h.rest)
body_within due h ts b =
    let long : h.size ≡ length (encodings Rules ts) = sym (length-take-le h.size h.rest b.inside) ∙ ap length b.bytes in (
      record { few_variables = b.few_variables; few_goals = b.few_goals; short = omega (arith, b.short); declared = b.fit },
      long,
      sym (take-append-drop h.size h.rest) ∙ ap (λ l. l ++ drop h.size h.rest) b.bytes,
    )

-- ── by itself ──

module _ {T : Type 0} (byte : ℕ) (due : Header → ℕ) (make : ℕ → List Term → T) where
  pub single_reads : (v g : ℕ) (ts : List Term) → Within v g ts → length ts ≡ due (over_terms v g ts []) → single byte due make (framed byte v g ts) ≡ Ok (make v ts)
  single_reads v g ts w c =
      let h = over_terms v g ts [] in
      let plain : framed byte v g ts ≡ byte ∷ header_bytes h = ap (λ l. byte ∷ v ∷ g ∷ (two (length (encodings Rules ts)) ++ l)) (sym (append-nil (encodings Rules ts))) in
      ap (single byte due make) plain
      ∙ asked (eqb byte byte) (Start 0) _ (eq-eqb byte byte refl)
      ∙ ap (λ r. go r (λ e. Inside (InCommand e)) (λ h. go (body (due h) 0 h) Inside (λ ts. ask (leb (length h.rest) h.size) (BytesLeft (header_size + h.size)) (Ok (make h.variables ts))))) (header_reads 0 h)
      ∙ ap (λ r. go r Inside (λ ts. ask (leb (length h.rest) h.size) (BytesLeft (header_size + h.size)) (Ok (make v ts)))) (body_reads (due h) 0 h ts (within_body (due h) v g ts [] w c))
      ∙ asked (leb (length h.rest) h.size) (BytesLeft (header_size + h.size)) (Ok (make v ts))
      (le-leb (length h.rest) h.size (omega (arith, ap length (append-nil (encodings Rules ts)))))

  -- what was read, with the terms that it is made of
  pub record Alone (bs : List ℕ) (x : T) : Type 0 where
    pub head : Header
    pub ts : List Term
    pub is : x ≡ make head.variables ts
    pub bytes : bs ≡ framed byte head.variables head.goals ts
    pub within : Within head.variables head.goals ts
    pub count : length ts ≡ due head

  pub single_is : (bs : List ℕ) (x : T) → AllBytes bs → single byte due make bs ≡ Ok x → Alone bs x
  single_is [] x a e = let z : ◌≡◌ {A = ℕ} 0 1 = cc in absurd (omega arith)
  single_is (b ∷ bs) x a e =
      let q2 = ask_yes (eqb b byte) (Start 0) _ x e in
      let q3 = go_yes (header 0 bs) (λ e. Inside (InCommand e)) _ x q2.1 in
      let h = q3.0 in
      let hd = header_is 0 bs h a.1 q3.1 in
      let q8 = go_yes (body (due h) 0 h) Inside _ x q3.2 in
      let ts = q8.0 in
      let bd = body_is (due h) 0 h ts hd.1 q8.1 in
      let w = body_within (due h) h ts bd in
      let q12 = ask_yes (leb (length h.rest) h.size) (BytesLeft (header_size + h.size)) (Ok (make h.variables ts)) x q8.2 in
      let whole : h.rest ≡ encodings Rules ts = sym (take_all h.size h.rest (leb-true (length h.rest) h.size q12.0)) ∙ bd.bytes in
      record {
        head = h;
        ts = ts;
        is = let same : make h.variables ts ≡ x = (let o : ◌≡◌ {A = Result T SingleFault} (Ok (make h.variables ts)) (Ok x) = q12.1 in cc) in sym same;
        bytes =
            ap₂ (λ i l. i ∷ l) (eqb-true b byte q2.0) hd.0
            ∙ ap₂ (λ n l. byte ∷ h.variables ∷ h.goals ∷ (two n ++ l)) w.1 whole;
        within = w.0;
        count = bd.count;
      }
