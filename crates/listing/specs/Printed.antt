-- What is printed of a row. Assumes nothing.
use Rattle.std.specs.Prelude.{ℕ, List, [], ◌∷◌, ◌++◌, codes}
use Rattle.std.specs.Fmt.{decimal}
use Rattle.std.specs.List.{flat_map}
use Rattle.resolution.specs.Printed.{word_text}
use Rattle.listing.specs.declared.rows.Row.{Row}
use Rattle.listing.specs.declared.rows.Row.TheVariants.{Told, Refused}
use Rattle.listing.specs.Refusals.{fault_text}
use Rattle.listing.specs.Listings.{listing}

-- a number after others
abbrev pub after_space : ℕ → List ℕ
after_space n = codes " " ++ decimal n

-- numbers with a space between them
abbrev pub spaced : List ℕ → List ℕ
spaced [] = []
spaced (n ∷ ns) = decimal n ++ flat_map after_space ns

abbrev pub row_text : Row → List ℕ
row_text (Told o ns) = word_text o.word ++ codes "," ++ decimal o.tries ++ codes "," ++ spaced ns.items
row_text (Refused e) = codes "refused," ++ fault_text e

-- a row on a line of its own
abbrev pub row_line : Row → List ℕ
row_line r = row_text r ++ codes "\n"

-- the heading, and all rows for a book and a query
abbrev pub table_text : List ℕ → List ℕ → List ℕ
table_text bs qs = codes "word,tries,steps\n" ++ flat_map row_line (listing bs qs)
