-- Terms put into a sink one after the other, under the names that a numbering gives. Assumes nothing.
use Rattle.std.proofs.Common.{◌≡◌, ℕ, ◌+◌, ◌≤◌, List, [], ◌∷◌, length, take, drop, IfOk, IsErr, Ok, Err, Result, sym, refl, ap, ◌∙◌, subst, ap₂, arith}
use Rattle.terms.specs.declared.Form.TheVariants.{Rules, Slips}
use Rattle.terms.specs.Terms.{Term, atom, pair}
use Rattle.terms.specs.Bytes.{encoding, encodings}
use Rattle.slips.specs.Slips.{appeared, numbered}
use Rattle.slips.specs.Numberings.{Names, by_first, names_after}
use Rattle.slips.proofs.Numberings.{bytes_pair, bytes_atom, after_pair, after_atom, bytes_more, part_length, part_numbered, part_met}
use Rattle.bindings.specs.Cells.{Cell}
use Rattle.bindings.specs.declared.TermAt.{TermAt}
use Rattle.bindings.specs.Meanings.{size}
use Rattle.bindings.specs.Trails.{trail}
use Rattle.bindings.specs.Presents.{presents}
use Rattle.bindings.proofs.Presents.{presents_length}
use Rattle.machine.specs.declared.cells.Cells.{Cells}
use Rattle.machine.specs.declared.instance.Writer.{Writer}
use Rattle.machine.specs.declared.sink.NoRoom.{NoRoom}
use Rattle.machine.specs.declared.sink.Sink.{Sink}
use Rattle.machine.specs.declared.text.Text.{Text}
use Rattle.machine.specs.declared.view.View.{View}
use Rattle.machine.specs.Views.{SeenOver, seen_as, Lent}
use Rattle.machine.specs.Sinks.{Puts}
use Rattle.machine.specs.Tries.{cell_terms}
use Rattle.machine.specs.Numberings.{Named, Writes, WritesAll, counted_bytes, seen_terms, Met}
use Rattle.machine.proofs.Sinks.{puts_nothing, puts_then, puts_over, refused}

-- ── the parts of a term ──

pub writes_as : {used : ℕ} {w w' : Writer} {r : Result Unit NoRoom} (m t : Term) → m ≡ t → Writes used w w' t r → Writes used w w' m r
writes_as {used} {w} {w'} {r} m t e p = subst (λ (x : Term). Writes used w w' x r) (sym e) p

-- what holds in any case holds where there is room
if_ok : (r : Result Unit NoRoom) {P : Type 0} → P → IfOk r (λ (u : Unit). P)
if_ok (Ok u) p = p
if_ok (Err e) p = tt

-- the writer w with its sink at s
abbrev pub over : Writer → Sink → Writer
over w s = record w { sink = record w.sink { now = s } }

module _ {used : ℕ} {w : Writer} where
  pub writes_atom : {s : Sink} {r : Result Unit NoRoom} (a : ℕ) → Puts w.sink.now s (encoding Rules (atom a)) r → Writes used w (over w s) (atom a) r
  writes_atom {s} {r} a p =
      record {
        same = refl;
        buffer = p.same;
        puts = λ ns h. subst (λ (bs : List ℕ). Puts w.sink.now s bs r) (sym (bytes_atom ns a)) p;
        after = λ ns h. if_ok r (subst (λ (ms : Names). Named w.numbering used ms) (sym (after_atom ns a)) h);
      }

  -- There is no room for the pair's own byte,
  pub pair_over : {s : Sink} {n : NoRoom} {r : Result Unit NoRoom} (f t : Term) → Puts w.sink.now s (0x03 ∷ []) (Err n) → IsErr r → Writes used w (over w s) (pair f t) r
  pair_over {s} {n} f t p z =
      refused (λ q. Writes used w (over w s) (pair f t) q) z
      (λ m. record {
        same = refl;
        buffer = p.same;
        puts = λ ns h. subst (λ (bs : List ℕ). Puts w.sink.now s bs (Err m)) (sym (bytes_pair ns f t)) (puts_over _ p);
        after = λ ns h. tt;
      })

  module _ {s : Sink} {o : Unit} (p : Puts w.sink.now s (0x03 ∷ []) (Ok o)) {v : Writer} {f : Term} where
    -- none for its first part,
    pub first_over : {n : NoRoom} {r : Result Unit NoRoom} (t : Term) → Writes used (over w s) v f (Err n) → IsErr r → Writes used w v (pair f t) r
    first_over t first z =
        refused (λ q. Writes used w v (pair f t) q) z
        (λ m. record {
          same = first.same;
          buffer = first.buffer ∙ p.same;
          puts = λ ns h. subst (λ (bs : List ℕ). Puts w.sink.now v.sink.now bs (Err m)) (sym (bytes_pair ns f t)) (puts_then p (puts_over _ (first.puts ns h)));
          after = λ ns h. tt;
        })

    -- or both are in, and then the rest.
    pub pair_then : {o' : Unit} {x : Writer} {r : Result Unit NoRoom} {t : Term} → Writes used (over w s) v f (Ok o') → Writes used v x t r → Writes used w x (pair f t) r
    pair_then {o'} {x} {r} {t} first rest =
        record {
          same = rest.same ∙ first.same;
          buffer = rest.buffer ∙ first.buffer ∙ p.same;
          puts = λ ns h.
              subst (λ (bs : List ℕ). Puts w.sink.now x.sink.now bs r) (sym (bytes_pair ns f t))
              (puts_then p (puts_then (first.puts ns h) (rest.puts (names_after ns f) (first.after ns h))));
          after = λ ns h. subst (λ (ms : Names). IfOk r (λ (u : Unit). Named x.numbering used ms)) (sym (after_pair ns f t)) (rest.after (names_after ns f) (first.after ns h));
        }

-- from the writer w with the term a to be written, writing has come to u with the term t
pub record Sofar (v : View) (w u : Writer) (a t : TermAt) : Type 0 where
  pub stands : SeenOver v t
  pub weighs : size (seen_as v t) ≤ size (seen_as v a)
  pub named : (ns : Names) × Named u.numbering v.used ns
  pub leads : (x : Writer) (r : Result Unit NoRoom) → Writes v.used u x (seen_as v t) r → Writes v.used w x (seen_as v a) r

-- ── terms one after the other ──

module _ {used : ℕ} {w : Writer} where
  pub all_as : {w' : Writer} {r : Result Unit NoRoom} (ss ts : List Term) → ss ≡ ts → WritesAll used w w' ts r → WritesAll used w w' ss r
  all_as {w'} {r} ss ts e p = subst (λ (us : List Term). WritesAll used w w' us r) (sym e) p

  module _ {u : Writer} {t : Term} where
    -- There is no room for the first term,
    pub all_over : {n : NoRoom} {r : Result Unit NoRoom} (ts : List Term) → Writes used w u t (Err n) → IsErr r → WritesAll used w u (t ∷ ts) r
    all_over ts p z =
        refused (λ q. WritesAll used w u (t ∷ ts) q) z
        (λ m. record {
          same = p.same;
          puts = λ xs h. subst (λ (bs : List ℕ). Puts w.sink.now u.sink.now bs (Err m)) (sym (bytes_more xs t ts)) (puts_over _ (p.puts (by_first xs) h));
          after = λ xs h. tt;
        })

    -- or it is in, and then the others.
    pub all_then : {o : Unit} {x : Writer} {r : Result Unit NoRoom} {ts : List Term} → Writes used w u t (Ok o) → WritesAll used u x ts r → WritesAll used w x (t ∷ ts) r
    all_then {o} {x} {r} {ts} p others =
        record {
          same = others.same ∙ p.same;
          puts = λ xs h.
              subst (λ (bs : List ℕ). Puts w.sink.now x.sink.now bs r) (sym (bytes_more xs t ts))
              (puts_then (p.puts (by_first xs) h) (others.puts (appeared xs t) (p.after (by_first xs) h)));
          after = λ xs h. others.after (appeared xs t) (p.after (by_first xs) h);
        }

  pub all_none : (ts : List Term) → ts ≡ [] → w.sink.now.count ≤ length w.sink.now.buffer.now → WritesAll used w w ts (Ok tt)
  all_none ts e h = all_as ts [] e (record { same = refl; puts = λ xs k. puts_nothing w.sink.now h; after = λ xs k. k })

-- from the writer w with all the terms to be written, writing has come to u with these left
pub record Left (used : ℕ) (w u : Writer) (all ts : List Term) : Type 0 where
  pub named : (xs : List ℕ) × Named u.numbering used (by_first xs)
  pub room : u.sink.now.count ≤ length u.sink.now.buffer.now
  pub leads : (x : Writer) (r : Result Unit NoRoom) → WritesAll used u x ts r → WritesAll used w x all r

-- ── some of the cells ──

module _ (v : View) (from many : ℕ) {w w' : Writer} {r : Result Unit NoRoom} (met : Met v from w.numbering)
    (p : WritesAll v.used w w' (take many (drop from (seen_terms v))) r) where
  -- How many there are, and then their terms.
  pub part_put : {s : Sink} {o : Unit} → from + many ≤ v.used → Puts s w.sink.now (many ∷ []) (Ok o)
      → Puts s w'.sink.now (counted_bytes (take many (drop from (numbered (seen_terms v))))) r
  part_put {s} {o} l q =
      let cells = seen_terms v in
      let e = part_length cells from many (omega (arith, l, presents_length (trail v.text.now.bytes v.cells.now v.newest) v.used)) in
      subst (λ (k : ℕ). Puts s w'.sink.now (k ∷ encodings Slips (take many (drop from (numbered cells)))) r) (sym e)
      (subst (λ (ts : List Term). Puts s w'.sink.now (many ∷ encodings Slips ts) r) (sym (part_numbered cells from many)) (puts_then q (p.puts _ met)))

  pub part_after : IfOk r (λ (u : Unit). Met v (from + many) w'.numbering)
  part_after = subst (λ (xs : List ℕ). IfOk r (λ (u : Unit). Named w'.numbering v.used (by_first xs))) (part_met (seen_terms v) from many) (p.after _ met)

-- The cells that are lent.
pub seen_cells : {t : Text} {c : Cells} {v : View} → Lent t c v → seen_terms v ≡ cell_terms t.bytes c
seen_cells {t} {c} {v} l =
    ap (λ (x : Text). presents (trail x.bytes v.cells.now v.newest) v.used) l.text
    ∙ ap₂ (λ (cs : List Cell) (k : ℕ). presents (trail t.bytes cs k) v.used) l.cells l.newest
    ∙ ap (presents (trail t.bytes c.table c.newest)) l.used
