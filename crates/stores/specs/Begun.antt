-- Where the rules of a book begin, as a table keeps it. Assumes nothing.
use Rattle.std.specs.Prelude.{ℕ, List, take}
use Rattle.grammar.specs.Items.{book}
use Rattle.grammar.specs.Texts.{texts_of}
use Rattle.stores.specs.declared.begins.Begins.{Begins}
use Rattle.stores.specs.declared.rulebooks.Image.{Image}

-- the places in use
abbrev pub begun : Begins → List ℕ
begun b = take b.count b.places

-- the rules of a book over lent bytes
abbrev pub image_rules : Image → List (List ℕ)
image_rules i = texts_of (book i.bytes.now)
