-- Lists of fit rules, put together and taken apart. Assumes nothing.
use Rattle.std.specs.Prelude.{◌≡◌, ℕ, Bool, true, false, ◌&&◌, List, [], ◌∷◌, ◌++◌}
use Rattle.grammar.specs.Items.{book}
use Rattle.grammar.specs.Texts.{all_bytes, fit, all_fit, texts_of}
use Rattle.books.proofs.Back.{book_fits}

both : (a b c : Bool) → (a && b) ≡ true → (b ≡ true → c ≡ true) → (a && c) ≡ true
both true b c p f = f p
both false b c p f = p

-- one list of fit rules after another
pub fit_append : (ts us : List (List ℕ)) → all_fit ts ≡ true → all_fit us ≡ true → all_fit (ts ++ us) ≡ true
fit_append [] us p q = q
fit_append (t ∷ ts) us p q = both (fit t) (all_fit ts) (all_fit (ts ++ us)) p (λ h. fit_append ts us h q)

-- the rules of a book
pub fit_book : (bs : List ℕ) → all_bytes bs ≡ true → all_fit (texts_of (book bs)) ≡ true
fit_book bs a = book_fits bs a
