-- Where the rules of a book begin. Assumes nothing.
use Rattle.std.proofs.Common.{◌≡◌, ℕ, zero, suc, ◌+◌, ◌*◌, ◌<◌, ◌≤◌, List, [], ◌∷◌, ◌++◌, map, length, get_or, take, drop, sym, refl, ap, ◌∙◌, subst, ap₂, append_assoc, arith, length-append}
use Rattle.std.proofs.lemmas.List.{take_at, drop_at, get_or-take, get_or-drop}
use Rattle.terms.specs.Terms.{Rule}
use Rattle.grammar.specs.Items.{Item, world, rule, rules}
use Rattle.grammar.specs.Encodings.{rule_bytes, item_bytes, book_bytes}
use Rattle.books.specs.Begins.{rule_places, item_texts}

-- as many places as rules
pub places_length : (p : ℕ) (is : List Item) → length (rule_places p is) ≡ length (item_texts is)
places_length p [] = refl
places_length p (world w ∷ is) = places_length (p + 2) is
places_length p (rule r ∷ is) = ap suc (places_length (p + length (rule_bytes r)) is)

-- a text stands at a place in bytes
pub record Stands (bs : List ℕ) (p : ℕ) (t : List ℕ) : Type 0 where
  pub inside : p + length t ≤ length bs
  pub part : take (length t) (drop p bs) ≡ t

stands_first : (front t more : List ℕ) → Stands (front ++ (t ++ more)) (length front) t
stands_first front t more =
    record {
      inside = omega (arith, length-append front (t ++ more), length-append t more);
      part = ap (take (length t)) (drop_at front (t ++ more) (length front) refl) ∙ take_at t more (length t) refl;
    }

-- each rule among items stands at its place
pub stands : (front : List ℕ) (is : List Item) (i : ℕ) → i < length (item_texts is)
    → Stands (front ++ book_bytes is) (get_or (rule_places (length front) is) i 0) (get_or (item_texts is) i [])
stands front [] i l = absurd (omega arith)
stands front (world w ∷ is) i l =
    let b = item_bytes (world w) in
    let long : length (front ++ b) ≡ length front + 2 = length-append front b in
    subst (λ bs. Stands bs (get_or (rule_places (length front + 2) is) i 0) (get_or (item_texts is) i [])) (append_assoc front b (book_bytes is))
    (subst (λ p. Stands ((front ++ b) ++ book_bytes is) (get_or (rule_places p is) i 0) (get_or (item_texts is) i [])) long (stands (front ++ b) is i l))
stands front (rule r ∷ is) zero l = stands_first front (rule_bytes r) (book_bytes is)
stands front (rule r ∷ is) (suc i) l =
    let b = rule_bytes r in
    let long : length (front ++ b) ≡ length front + length b = length-append front b in
    subst (λ bs. Stands bs (get_or (rule_places (length front + length b) is) i 0) (get_or (item_texts is) i [])) (append_assoc front b (book_bytes is))
    (subst (λ p. Stands ((front ++ b) ++ book_bytes is) (get_or (rule_places p is) i 0) (get_or (item_texts is) i [])) long (stands (front ++ b) is i (omega arith)))

-- its bytes
pub byte_there : (bs : List ℕ) (p : ℕ) (t : List ℕ) (k : ℕ) → Stands bs p t → k < length t → get_or bs (p + k) 0 ≡ get_or t k 0
byte_there bs p t k s l =
    sym (get_or-drop p bs k 0)
    ∙ sym (get_or-take (length t) (drop p bs) k 0 l)
    ∙ ap (λ x. get_or x k 0) s.part

-- the length in a rule's header
pub header_length : (r : Rule) → 5 + (get_or (rule_bytes r) 3 0 * 256 + get_or (rule_bytes r) 4 0) ≡ length (rule_bytes r)
header_length r = omega arith

rule_of_text : (rs : List Rule) (i : ℕ) → i < length (map rule_bytes rs) → (r : Rule) × (get_or (map rule_bytes rs) i [] ≡ rule_bytes r)
rule_of_text [] i l = absurd (omega arith)
rule_of_text (r ∷ rs) zero l = (r, refl)
rule_of_text (r ∷ rs) (suc i) l = rule_of_text rs i (omega arith)

-- how many bytes the rule at a place has, by its header
pub size_there : (bs : List ℕ) (p : ℕ) (is : List Item) (i : ℕ) → i < length (item_texts is) → Stands bs p (get_or (item_texts is) i [])
    → (5 + (get_or bs (p + 3) 0 * 256 + get_or bs (p + 4) 0) ≡ length (get_or (item_texts is) i [])) × (5 ≤ length (get_or (item_texts is) i []))
size_there bs p is i l s =
    let t = get_or (item_texts is) i [] in
    let x = rule_of_text (rules is) i l in
    let r = x.0 in
    let long : 5 ≤ length t = omega (arith, ap length x.1) in (
      ap₂ (λ h m. 5 + (h * 256 + m)) (byte_there bs p t 3 s (omega arith) ∙ ap (λ u. get_or u 3 0) x.1) (byte_there bs p t 4 s (omega arith) ∙ ap (λ u. get_or u 4 0) x.1)
          ∙ header_length r ∙ ap length (sym x.1),
      long,
    )
