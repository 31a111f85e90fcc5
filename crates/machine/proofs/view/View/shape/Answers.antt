use Rattle.std.proofs.Common.{◌≡◌, ℕ, ◌+◌, List, None, subst, ◌*◌, get_or, ap, sym, ◌∙◌, arith, rules}
use Rattle.terms.specs.Terms.{atom}
use Rattle.bindings.specs.Cells.{Cell}
use Rattle.bindings.proofs.Texts.{inside, stands_atom, stands_variable}
use Rattle.bindings.proofs.Shapes.{form_atom, form_free, form_bound}
use Rattle.machine.proofs.Views.{seen_sound}
use Rattle.machine.proofs.view.View.shape.Goals as goal

-- a byte of the slice is one of the text
at : {bs text : List ℕ} {n : ℕ} (p : ℕ) → bs ≡ text → get_or bs p 0 ≡ n → get_or text p 0 ≡ n
at {bs} {text} {n} p e h = subst (λ (x : List ℕ). get_or x p 0 ≡ n) e h

-- and so is a cell that such a byte names
cell_at : {bs text : List ℕ} {b : Cell} (cells : List Cell) (l p n : ℕ) → bs ≡ text → n ≡ get_or bs (p + 1) 0 → get_or cells (l + n) None ≡ b → get_or cells (l + get_or text (p + 1) 0) None ≡ b
cell_at {bs} {text} {b} cells l p n e m h =
    subst (λ (x : List ℕ). get_or cells (l + get_or x (p + 1) 0) None ≡ b) e (subst (λ (k : ℕ). get_or cells (l + k) None ≡ b) m h)

pub bounds-text-place : goal.bounds-text-place
bounds-text-place c = let i = inside _ _ _ _ c.looking.invariant.0.spans in search rules

pub bounds-text-place-in-1 : goal.bounds-text-place-in-1
bounds-text-place-in-1 c = let i = (stands_atom c.looking.invariant.0 (at _ c.as_slice-text.ensures c.in-1.is)).0 in search rules

pub bounds-text-place-in-1-2 : goal.bounds-text-place-in-1-2
bounds-text-place-in-1-2 c = let i = (stands_atom c.looking.invariant.0 (at _ c.as_slice-text.ensures c.in-1.is)).0 in search rules

pub returns-in-1 : goal.returns-in-1
returns-in-1 c =
    let text = c.args.self.now.text.now.bytes in
    let p = c.looking.at.place in
    let e : get_or text (p + 1) 0 * 256 + get_or text (p + 2) 0 ≡ c.from_be_bytes.result = omega (arith, c.from_be_bytes.ensures, ap (λ (x : List ℕ). get_or x (p + 1) 0) c.as_slice-text.ensures, ap (λ (x : List ℕ). get_or x (p + 2) 0) c.as_slice-text.ensures) in
    sym c.looking.invariant.1 ∙ form_atom (seen_sound c.args.self.now) c.looking.invariant.0 (at _ c.as_slice-text.ensures c.in-1.is) ∙ ap atom e

pub bounds-text-place-in-2 : goal.bounds-text-place-in-2
bounds-text-place-in-2 c = let i = (stands_variable c.looking.invariant.0 (at _ c.as_slice-text.ensures c.in-2.is)).0 in search rules

pub overflow_add-cell : goal.overflow_add-cell
overflow_add-cell c =
    let m : c.from.result ≡ get_or c.as_slice-text.result.now (c.looking.at.place + 1) 0 = c.from.ensures in
    let v = stands_variable c.looking.invariant.0 (at _ c.as_slice-text.ensures c.in-2.is) in let r = (seen_sound c.args.self.now).room in let f = (seen_sound c.args.self.now).few in search rules

pub bounds : goal.bounds
bounds c = omega (arith, c.from.ensures, ap (λ (x : List ℕ). get_or x (c.looking.at.place + 1) 0) c.as_slice-text.ensures, (stands_variable c.looking.invariant.0 (at _ c.as_slice-text.ensures c.in-2.is)).2, (seen_sound c.args.self.now).room)

pub returns-in-None : goal.returns-in-None
returns-in-None c =
    let free_cell = cell_at c.args.self.now.cells.now c.looking.at.level c.looking.at.place c.from.result c.as_slice-text.ensures c.from.ensures c.in-None.is in
    rw c.from.ensures (rw c.as_slice-text.ensures (
      (stands_variable c.looking.invariant.0 (at _ c.as_slice-text.ensures c.in-2.is)).2,
      free_cell,
      sym c.looking.invariant.1 ∙ form_free (seen_sound c.args.self.now) c.looking.invariant.0 (at _ c.as_slice-text.ensures c.in-2.is) free_cell,
    ))

pub looking-smaller : goal.looking-smaller
looking-smaller c =
    let b = form_bound (seen_sound c.args.self.now) _ c.looking.invariant.0 (at _ c.as_slice-text.ensures c.in-2.is) (cell_at c.args.self.now.cells.now c.looking.at.level c.looking.at.place c.from.result c.as_slice-text.ensures c.from.ensures c.in-Some.is) in b.less

pub looking-preserved : goal.looking-preserved
looking-preserved c =
    let b = form_bound (seen_sound c.args.self.now) _ c.looking.invariant.0 (at _ c.as_slice-text.ensures c.in-2.is) (cell_at c.args.self.now.cells.now c.looking.at.level c.looking.at.place c.from.result c.as_slice-text.ensures c.from.ensures c.in-Some.is) in (b.stands, b.means ∙ c.looking.invariant.1)
