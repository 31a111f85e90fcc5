-- No fault stands beyond the end of the bytes. Assumes nothing.
use Rattle.std.proofs.Common.{◌≡◌, ℕ, zero, suc, ◌+◌, ◌*◌, ◌≤◌, Bool, true, false, cond, ◌&&◌, eqb, ltb, leb, List, [], ◌∷◌, length, take, drop, Ok, Err, Result, sym, refl, ap, subst, arith, length-drop, length-take}
use Rattle.std.proofs.lemmas.Bool.{leb-true, leb-false, and_parts}
use Rattle.terms.specs.declared.Form.{Form}
use Rattle.terms.specs.declared.Form.TheVariants.{Rules}
use Rattle.terms.specs.Terms.{Term, var, atom}
use Rattle.grammar.specs.declared.commands.Command.{Command}
use Rattle.grammar.specs.declared.commands.Command.TheVariants.{Atom, Var, Pair}
use Rattle.grammar.specs.declared.faults.CommandFault.{CommandFault}
use Rattle.grammar.specs.declared.faults.CommandFault.TheVariants.{Operands}
use Rattle.grammar.specs.declared.faults.RuleFault.{RuleFault}
use Rattle.grammar.specs.declared.faults.RuleFault.TheVariants.{Command as InCommand, Variables, Goals, Length, Undeclared}
use Rattle.grammar.specs.declared.faults.SingleFault.{SingleFault}
use Rattle.grammar.specs.declared.faults.SingleFault.TheVariants.{Inside, Start, BytesLeft}
use Rattle.grammar.specs.declared.faults.BookFault.{BookFault}
use Rattle.grammar.specs.declared.faults.BookFault.TheVariants.{Rule as InRule, World, TooLong, NoItem, TooManyRules}
use Rattle.grammar.specs.Refusals.{command_place, rule_place, single_place, book_place}
use Rattle.grammar.specs.Asking.{ask, go}
use Rattle.grammar.specs.TermCommands.{command, operands, end, unfit, next, commands, with_term, with_pair, terms}
use Rattle.grammar.specs.Singles.{most_variables, most_goals, longest, rule_byte, query_byte, Header, header_size, header, used_up, body, single, rule_due, rule_of, query_due, query_of}
use Rattle.grammar.specs.Items.{most_bytes, most_rules, world_byte, Item, world, rule as rule_of_book, world_item, rule_item, item, counts, with_item, items_past, book}
use Rattle.grammar.specs.Laws.{FaultsStandInside}
use Rattle.grammar.proofs.Taking.{front, has_operands, one_more, no_more, place_of, place_first, fault_place}
use Rattle.grammar.proofs.Counting.{Reading}
use Rattle.grammar.proofs.Framed.{ask_yes, go_yes}
use Rattle.grammar.proofs.Rows as rows

-- ── terms ──

-- what is left, or the fault, stands from lo to hi
abbrev Stands : ℕ → ℕ → Reading → Type 0
Stands lo hi (Ok (ts, left)) = (lo ≤ place_of left) × (place_of left ≤ hi)
Stands lo hi (Err e) = (lo ≤ rule_place e) × (rule_place e ≤ hi)

wider : (lo hi low high : ℕ) (r : Reading) → low ≤ lo → hi ≤ high → Stands lo hi r → Stands low high r
wider lo hi low high (Ok (ts, left)) a b s = (omega arith, omega arith)
wider lo hi low high (Err e) a b s = (omega arith, omega arith)

term_stands : (lo hi : ℕ) (t : Term) (r : Reading) → Stands lo hi r → Stands lo hi (with_term t r)
term_stands lo hi t (Ok (ts, left)) s = s
term_stands lo hi t (Err e) s = s

pair_stands : (lo hi : ℕ) (r : Reading) → Stands lo hi r → Stands lo hi (with_pair r)
pair_stands lo hi (Ok (ts, left)) s = s
pair_stands lo hi (Err e) s = s

ask_stands : (lo hi : ℕ) (b : Bool) (e : RuleFault) (r : Reading) → (lo ≤ rule_place e) × (rule_place e ≤ hi) → Stands lo hi r → Stands lo hi (ask b e r)
ask_stands lo hi true e r h s = s
ask_stands lo hi false e r h s = h

abbrev Stand : Form → ℕ → ℕ → Type 0
Stand f v m = (n p : ℕ) (bs : List ℕ) → length bs ≤ m → Stands p (p + length bs) (terms v n (commands f p bs))

after_command : (f : Form) (v m n p : ℕ) (c : Command) (k : ℕ) (bs : List ℕ) → k ≤ length bs → length bs ≤ m → Stand f v m
    → Stands p (p + suc (length bs)) (terms v (suc n) (next p c (commands f (p + (1 + k)) (drop k bs))))
after_command f v m n p (Atom a) k bs i l again =
    let d = length-drop k bs in
    let r = terms v n (commands f (p + (1 + k)) (drop k bs)) in
    term_stands p (p + suc (length bs)) (atom a) r
    (wider (p + (1 + k)) (p + (1 + k) + length (drop k bs)) p (p + suc (length bs)) r (omega arith) (omega arith) (again n (p + (1 + k)) (drop k bs) (omega arith)))
after_command f v m n p (Var x) k bs i l again =
    let d = length-drop k bs in
    let r = terms v n (commands f (p + (1 + k)) (drop k bs)) in
    ask_stands p (p + suc (length bs)) (ltb x v) (Undeclared p) (with_term (var x) r) (omega arith, omega arith)
    (term_stands p (p + suc (length bs)) (var x) r
    (wider (p + (1 + k)) (p + (1 + k) + length (drop k bs)) p (p + suc (length bs)) r (omega arith) (omega arith) (again n (p + (1 + k)) (drop k bs) (omega arith))))
after_command f v m n p Pair k bs i l again =
    let d = length-drop k bs in
    let r = terms v (suc (suc n)) (commands f (p + (1 + k)) (drop k bs)) in
    pair_stands p (p + suc (length bs)) r
    (wider (p + (1 + k)) (p + (1 + k) + length (drop k bs)) p (p + suc (length bs)) r (omega arith) (omega arith) (again (suc (suc n)) (p + (1 + k)) (drop k bs) (omega arith)))

stand : (f : Form) (v m : ℕ) → Stand f v m
stand f v m zero p bs l = (omega (arith, place_first f p bs), omega (arith, place_first f p bs))
stand f v m (suc n) p [] l = (omega arith, omega arith)
stand f v zero (suc n) p (b ∷ bs) l = absurd (omega arith)
stand f v (suc m) (suc n) p (b ∷ bs) l = by (command f p b bs) refl (λ n p bs l. stand f v m n p bs l)
  where
    by : (r : Result Command CommandFault) → command f p b bs ≡ r → Stand f v m → Stands p (p + suc (length bs)) (terms v (suc n) (commands f p (b ∷ bs)))
    by (Ok c) e again =
        subst (λ cs. Stands p (p + suc (length bs)) (terms v (suc n) cs)) (sym (one_more f p b bs c e))
        (after_command f v m n p c (operands f c) bs (has_operands (front f p b bs c e)) (omega arith) again)
    by (Err x) e again =
        subst (λ cs. Stands p (p + suc (length bs)) (terms v (suc n) cs)) (sym (no_more f p b bs x e))
        (omega (arith, fault_place f p b bs x e), omega (arith, fault_place f p b bs x e))

-- ── under a header ──

-- the place of a fault
abbrev place_in : Result (List Term) RuleFault → ℕ
place_in (Ok ts) = 0
place_in (Err e) = rule_place e

used_place : (lo hi : ℕ) (r : Reading) (e : RuleFault) → Stands lo hi r → used_up r ≡ Err e → rule_place e ≤ hi
used_place lo hi (Ok (ts, end q)) e s h = let z : ◌≡◌ {A = ℕ} 0 1 = cc in absurd (omega arith)
used_place lo hi (Ok (ts, unfit x)) e s h = let same : command_place x ≡ rule_place e = ap place_in h in omega arith
used_place lo hi (Ok (ts, next q c cs)) e s h = let same : q ≡ rule_place e = ap place_in h in omega arith
used_place lo hi (Err x) e s h = let same : rule_place x ≡ rule_place e = ap place_in h in omega arith

-- a question's fault, or that of what follows
ask_place : {T E : Type 0} (place : E → ℕ) (hi : ℕ) (b : Bool) (x : E) (r : Result T E) (e : E) → ask b x r ≡ Err e → place x ≤ hi → (r ≡ Err e → place e ≤ hi) → place e ≤ hi
ask_place place hi true x r e h i more = more h
ask_place place hi false x r e h i more = let same : x ≡ e = cc in subst (λ y. place y ≤ hi) same i

body_place : (due p : ℕ) (h : Header) (e : RuleFault) → body due p h ≡ Err e → rule_place e ≤ p + header_size + length h.rest
body_place due p h e q =
    let hi = p + header_size + length h.rest in
    let bs = take h.size h.rest in
    let short : length bs ≤ length h.rest = omega (arith, length-take h.size h.rest) in
    ask_place rule_place hi (leb h.variables most_variables) (Variables p) _ e q (omega arith)
    (λ q. ask_place rule_place hi (leb h.goals most_goals) (Goals p) _ e q (omega arith)
    (λ q. ask_place rule_place hi (leb h.size longest && leb h.size (length h.rest)) (Length p) _ e q (omega arith)
    (λ q.
    let r = terms h.variables due (commands Rules (p + header_size) bs) in
    let s = used_place (p + header_size) (p + header_size + length bs) r e (stand Rules h.variables (length bs) due (p + header_size) bs (omega arith)) q in
    omega arith)))

header_long : (p : ℕ) (bs : List ℕ) (h : Header) → header p bs ≡ Ok h → length bs ≡ 4 + length h.rest
header_long p [] h e = let z : ◌≡◌ {A = ℕ} 0 1 = cc in absurd (omega arith)
header_long p (v ∷ []) h e = let z : ◌≡◌ {A = ℕ} 0 1 = cc in absurd (omega arith)
header_long p (v ∷ g ∷ []) h e = let z : ◌≡◌ {A = ℕ} 0 1 = cc in absurd (omega arith)
header_long p (v ∷ g ∷ x ∷ []) h e = let z : ◌≡◌ {A = ℕ} 0 1 = cc in absurd (omega arith)
header_long p (v ∷ g ∷ x ∷ y ∷ rest) h e =
    let same : h ≡ record { variables = v; goals = g; size = x * 256 + y; rest = rest } = cc in
    let long : length h.rest ≡ length rest = ap (λ k. length k.rest) same in
    omega arith

header_place : (p : ℕ) (bs : List ℕ) (e : CommandFault) → header p bs ≡ Err e → command_place e ≡ p
header_place p [] e h = let same : e ≡ Operands p = cc in ap command_place same
header_place p (v ∷ []) e h = let same : e ≡ Operands p = cc in ap command_place same
header_place p (v ∷ g ∷ []) e h = let same : e ≡ Operands p = cc in ap command_place same
header_place p (v ∷ g ∷ x ∷ []) e h = let same : e ≡ Operands p = cc in ap command_place same
header_place p (v ∷ g ∷ x ∷ y ∷ rest) e h = let z : ◌≡◌ {A = ℕ} 0 1 = cc in absurd (omega arith)

-- ── a rule or a query by itself ──

single_inside : {T : Type 0} (byte : ℕ) (due : Header → ℕ) (make : ℕ → List Term → T) (bs : List ℕ) (e : SingleFault) → single byte due make bs ≡ Err e → single_place e ≤ length bs
single_inside byte due make [] e h = let same : Start 0 ≡ e = cc in subst (λ x. single_place x ≤ 0) same (omega arith)
single_inside {T} byte due make (b ∷ bs) e h = ask_place single_place (suc (length bs)) (eqb b byte) (Start 0) _ e h (omega arith) (λ h. at_header (header 0 bs) refl h)
  where
    at_end : (k : Header) → length bs ≡ 4 + length k.rest → (ts : List Term)
        → ask (leb (length k.rest) k.size) (BytesLeft (header_size + k.size)) (Ok (make k.variables ts)) ≡ Err e → single_place e ≤ suc (length bs)
    at_end k l ts h = by (leb (length k.rest) k.size) refl h
      where
        by : (t : Bool) → leb (length k.rest) k.size ≡ t → ask t (BytesLeft (header_size + k.size)) (Ok (make k.variables ts)) ≡ Err e → single_place e ≤ suc (length bs)
        by true q h = let z : ◌≡◌ {A = ℕ} 0 1 = cc in absurd (omega arith)
        by false q h =
            let same : BytesLeft (header_size + k.size) ≡ e = cc in
            subst (λ x. single_place x ≤ suc (length bs)) same (omega (arith, leb-false (length k.rest) k.size q))

    at_body : (k : Header) → length bs ≡ 4 + length k.rest → (s : Result (List Term) RuleFault) → body (due k) 0 k ≡ s
        → go s Inside (λ ts. ask (leb (length k.rest) k.size) (BytesLeft (header_size + k.size)) (Ok (make k.variables ts))) ≡ Err e → single_place e ≤ suc (length bs)
    at_body k l (Ok ts) q h = at_end k l ts h
    at_body k l (Err x) q h =
        let same : Inside x ≡ e = cc in
        subst (λ x. single_place x ≤ suc (length bs)) same (omega (arith, body_place (due k) 0 k x q))

    at_header : (s : Result Header CommandFault) → header 0 bs ≡ s
        → go s (λ e. Inside (InCommand e)) (λ k. go (body (due k) 0 k) Inside (λ ts. ask (leb (length k.rest) k.size) (BytesLeft (header_size + k.size)) (Ok (make k.variables ts)))) ≡ Err e
        → single_place e ≤ suc (length bs)
    at_header (Ok k) q h = at_body k (header_long 0 bs k q) (body (due k) 0 k) refl h
    at_header (Err x) q h =
        let same : Inside (InCommand x) ≡ e = cc in
        subst (λ x. single_place x ≤ suc (length bs)) same (omega (arith, header_place 0 bs x q))

-- ── a book ──

pub item_inside : (n p b : ℕ) (bs : List ℕ) (i : Item) (k : ℕ) → item n p b bs ≡ Ok (i, k) → k ≤ length bs
item_inside n p b bs i k e = by (eqb b rule_byte) (eqb b world_byte) e
  where
    in_world : (bs : List ℕ) → world_item p bs ≡ Ok (i, k) → k ≤ length bs
    in_world [] e = let z : ◌≡◌ {A = ℕ} 0 1 = cc in absurd (omega arith)
    in_world (w ∷ bs) e = let o : ◌≡◌ {A = Item × ℕ} (world w, 1) (i, k) = cc in let one : 1 ≡ k = ap (λ x. x.1) o in omega arith

    in_rule : rule_item n p bs ≡ Ok (i, k) → k ≤ length bs
    in_rule e =
        let q3 = go_yes (header p bs) (λ e. InRule n (InCommand e)) _ (i, k) e in
        let h = q3.0 in
        let q4 = ask_yes (ltb n most_rules) (TooManyRules p n) _ (i, k) q3.2 in
        let q8 = go_yes (body (rule_due h) p h) (InRule n) _ (i, k) q4.1 in
        let q5 = ask_yes (leb h.variables most_variables) (Variables p) _ q8.0 q8.1 in
        let q6 = ask_yes (leb h.goals most_goals) (Goals p) _ q8.0 q5.1 in
        let q7 = ask_yes (leb h.size longest && leb h.size (length h.rest)) (Length p) _ q8.0 q6.1 in
        let fits = leb-true h.size (length h.rest) (and_parts (leb h.size longest) (leb h.size (length h.rest)) q7.0).1 in
        let o : ◌≡◌ {A = Result (Item × ℕ) BookFault} (Ok (rule_of_book (rule_of h.variables q8.0), 4 + h.size)) (Ok (i, k)) = q8.2 in
        let pairs : ◌≡◌ {A = Item × ℕ} (rule_of_book (rule_of h.variables q8.0), 4 + h.size) (i, k) = cc in
        let size : 4 + h.size ≡ k = ap (λ x. x.1) pairs in
        omega (arith, header_long p bs h q3.1)

    by : (x y : Bool) → cond x (rule_item n p bs) (cond y (world_item p bs) (Err (NoItem p))) ≡ Ok (i, k) → k ≤ length bs
    by true y e = in_rule e
    by false true e = in_world bs e
    by false false e = let z : ◌≡◌ {A = ℕ} 0 1 = cc in absurd (omega arith)

item_place : (n p b : ℕ) (bs : List ℕ) (e : BookFault) → item n p b bs ≡ Err e → book_place e ≤ p + suc (length bs)
item_place n p b bs e h = by (eqb b rule_byte) (eqb b world_byte) h
  where
    in_world : (bs : List ℕ) → world_item p bs ≡ Err e → book_place e ≤ p + suc (length bs)
    in_world [] h = let same : World (Operands p) ≡ e = cc in subst (λ x. book_place x ≤ p + 1) same (omega arith)
    in_world (w ∷ bs) h = let z : ◌≡◌ {A = ℕ} 0 1 = cc in absurd (omega arith)

    at_body : (k : Header) → length bs ≡ 4 + length k.rest → (s : Result (List Term) RuleFault) → body (rule_due k) p k ≡ s
        → go {U = Item × ℕ} s (InRule n) (λ ts. Ok (rule_of_book (rule_of k.variables ts), 4 + k.size)) ≡ Err e → book_place e ≤ p + suc (length bs)
    at_body k l (Ok ts) q h = let z : ◌≡◌ {A = ℕ} 0 1 = cc in absurd (omega arith)
    at_body k l (Err x) q h =
        let same : InRule n x ≡ e = cc in
        subst (λ x. book_place x ≤ p + suc (length bs)) same (omega (arith, body_place (rule_due k) p k x q))

    at_header : (s : Result Header CommandFault) → header p bs ≡ s
        → go {U = Item × ℕ} s (λ e. InRule n (InCommand e)) (λ k. ask (ltb n most_rules) (TooManyRules p n) (go (body (rule_due k) p k) (InRule n) (λ ts. Ok (rule_of_book (rule_of k.variables ts), 4 + k.size)))) ≡ Err e
        → book_place e ≤ p + suc (length bs)
    at_header (Ok k) q h =
        ask_place book_place (p + suc (length bs)) (ltb n most_rules) (TooManyRules p n) _ e h (omega arith) (λ h. at_body k (header_long p bs k q) (body (rule_due k) p k) refl h)
    at_header (Err x) q h =
        let same : InRule n (InCommand x) ≡ e = cc in
        subst (λ x. book_place x ≤ p + suc (length bs)) same (omega (arith, header_place p bs x q))

    by : (x y : Bool) → cond x (rule_item n p bs) (cond y (world_item p bs) (Err (NoItem p))) ≡ Err e → book_place e ≤ p + suc (length bs)
    by true y h = at_header (header p bs) refl h
    by false true h = in_world bs h
    by false false h = let same : NoItem p ≡ e = cc in subst (λ x. book_place x ≤ p + suc (length bs)) same (omega arith)

abbrev BookStands : ℕ → Result (List Item) BookFault → Type 0
BookStands hi (Ok is) = Unit {0}
BookStands hi (Err e) = book_place e ≤ hi

with_stands : (hi : ℕ) (i : Item) (r : Result (List Item) BookFault) → BookStands hi r → BookStands hi (with_item i r)
with_stands hi i (Ok is) s = tt
with_stands hi i (Err e) s = s

abbrev AllStand : ℕ → Type 0
AllStand m = (n p : ℕ) (bs : List ℕ) → length bs ≤ m → BookStands (p + length bs) (items_past n 0 p bs)

all_stand : (m : ℕ) → AllStand m
all_stand m n p [] l = tt
all_stand zero n p (b ∷ bs) l = absurd (omega arith)
all_stand (suc m) n p (b ∷ bs) l = by (item n p b bs) refl (λ n p bs l. all_stand m n p bs l)
  where
    by : (x : Result (Item × ℕ) BookFault) → item n p b bs ≡ x → AllStand m → BookStands (p + suc (length bs)) (items_past n 0 p (b ∷ bs))
    by (Ok (i, k)) e again =
        let inside = item_inside n p b bs i k e in
        let d = length-drop k bs in
        let same : p + suc k + length (drop k bs) ≡ p + suc (length bs) = omega arith in
        subst (BookStands (p + suc (length bs))) (sym (rows.one_more n p b bs i k inside e))
        (with_stands (p + suc (length bs)) i (items_past (n + counts i) 0 (p + suc k) (drop k bs))
        (subst (λ hi. BookStands hi (items_past (n + counts i) 0 (p + suc k) (drop k bs))) same (again (n + counts i) (p + suc k) (drop k bs) (omega arith))))
    by (Err x) e again = subst (BookStands (p + suc (length bs))) (sym (rows.no_more n p b bs x e)) (item_place n p b bs x e)

book_inside : (bs : List ℕ) (e : BookFault) → book bs ≡ Err e → book_place e ≤ length bs
book_inside bs e h =
    ask_place book_place (length bs) (leb (length bs) most_bytes) TooLong (items_past 0 0 0 bs) e h (omega arith)
    (λ h. let s : book_place e ≤ 0 + length bs = subst (BookStands (0 + length bs)) h (all_stand (length bs) 0 0 bs (omega arith)) in omega arith)

pub faults_inside : FaultsStandInside
faults_inside =
    record {
      in_rule = single_inside rule_byte rule_due rule_of;
      in_query = single_inside query_byte query_due query_of;
      in_book = book_inside;
    }
