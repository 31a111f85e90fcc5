-- Where an answer stands, answer and slip write it, it reads back, and its slip passes. Assumes nothing.
use Rattle.std.proofs.Common.{◌≡◌, ℕ, zero, suc, ◌+◌, ◌<◌, List, [], ◌∷◌, length, get_or, take, Ok, sym, refl, ap, ◌∙◌, subst, append-nil, arith, get_or-take}
use Rattle.terms.specs.declared.Form.TheVariants.{Slips}
use Rattle.terms.specs.Terms.{Term, atom}
use Rattle.terms.specs.Bytes.{encodings}
use Rattle.unification.specs.Ground.{Replacement, replaced}
use Rattle.resolution.specs.Cells.{cell}
use Rattle.resolution.specs.Follows.{Covers}
use Rattle.resolution.specs.Lines.{Place}
use Rattle.resolution.specs.Search.{Condition, running, standing, ended, stopped}
use Rattle.slips.specs.Slips.{all_appeared, numbered, Slip, slip_of, answer_bytes, slip_bytes}
use Rattle.slips.specs.Opening.{Opened}
use Rattle.slips.specs.Runs.{Request, to_hold, to_answer, to_slip, held, wrote, hold, written_if}
use Rattle.slips.specs.Checker.{check, terms_at, Claimed, Claims}
use Rattle.slips.specs.Laws.{Opens, Stands, WrittenReadsBack, OwnSlipsPass}
use Rattle.slips.proofs.Unknowns.{Known, AllKnown, all_appeared_known, replaced_renumbered}
use Rattle.slips.proofs.Written.{FitSlip, terms_written, answer_back, slip_back}
use Rattle.slips.proofs.Own.{Ready, cell_renumbered, first_count, slip_fits, slip_passes}
use Rattle.slips.proofs.Runs.{met, standing_done, returns_as, as_returns, written_room, written_front}
use Rattle.slips.proofs.Opening.{query_read, few, well_declared, ready}

hold_standing : (c : Condition) → hold c ≡ Ok tt → c ≡ standing
hold_standing running e = let z : ◌≡◌ {A = ℕ} 0 1 = cc in absurd (omega arith)
hold_standing standing e = refl
hold_standing ended e = let z : ◌≡◌ {A = ℕ} 0 1 = cc in absurd (omega arith)
hold_standing (stopped why) e = let z : ◌≡◌ {A = ℕ} 0 1 = cc in absurd (omega arith)

module _ (texts : List (List ℕ)) (bs : List ℕ) (o : Opened) (h : Opens texts bs o) where
  -- the place that calls lead to, and its slip
  abbrev pub here : List Request → Place
  here calls = (met o calls).search.place

  abbrev pub slip_here : List Request → Slip
  slip_here calls = slip_of o.rules o.query (here calls)

  fit_here : (calls : List Request) → FitSlip (slip_here calls)
  fit_here calls = slip_fits o.rules o.query (well_declared texts bs o h).0 (few texts bs o h) (here calls) (ready texts bs o h calls)

  pub stands : (calls : List Request) → (met o calls).search.condition ≡ standing → Stands o calls (slip_here calls)
  stands calls e =
      record {
        answers = λ buffer l. as_returns o calls (to_answer buffer) _ (ap (λ c. written_if (hold c) (answer_bytes (slip_here calls)) buffer) e ∙ written_room (answer_bytes (slip_here calls)) buffer l);
        slips = λ buffer l. as_returns o calls (to_slip buffer) _ (ap (λ c. written_if (hold c) (slip_bytes (slip_here calls)) buffer) e ∙ written_room (slip_bytes (slip_here calls)) buffer l);
        answer_back = answer_back (slip_here calls) (fit_here calls);
        slip_back = slip_back (slip_here calls) (fit_here calls);
      }

pub written_reads_back : WrittenReadsBack
written_reads_back texts bs o h calls e =
    (slip_here texts bs o h calls, stands texts bs o h calls (hold_standing (met o calls).search.condition held_as))
  where
    held_as : hold (met o calls).search.condition ≡ Ok tt
    held_as = let k = returns_as o calls to_hold (held (Ok tt)) e in cc

pub own_slips_pass : OwnSlipsPass
own_slips_pass texts bs o h calls buffer now n e =
    ap (check o.rules bs) front.1
    ∙ slip_passes o.rules o.query (well_declared texts bs o h).0 (few texts bs o h) bs (query_read texts bs o h) (well_declared texts bs o h).1
    (here texts bs o h calls) (ready texts bs o h calls) (standing_done o.rules o.query calls front.0)
  where
    front : ((met o calls).search.condition ≡ standing) × (take n now ≡ slip_bytes (slip_here texts bs o h calls))
    front =
        written_front (met o calls).search.condition (slip_bytes (slip_here texts bs o h calls)) buffer now n
        (returns_as o calls (to_slip buffer) (wrote (Ok n) now) e)

-- ── what an answer covers is claimed by its bytes ──

known_cell : (xs : List ℕ) (ts : List Term) (k : ℕ) → AllKnown xs ts → Known xs (cell ts k)
known_cell xs [] k h = tt
known_cell xs (t ∷ ts) zero h = h.0
known_cell xs (t ∷ ts) (suc k) h = known_cell xs ts k h.1

covers_numbered : (n : ℕ) (cells : List Term) (θ : Replacement) → Covers n cells θ → Covers n (take n (numbered cells)) θ
covers_numbered n cells θ (γ, agrees) = (δ, λ k l. cell_is k l ∙ agrees k l)
  where
    xs : List ℕ
    xs = all_appeared [] cells

    δ : Replacement
    δ u = γ (get_or xs u 0)

    cell_is : (k : ℕ) → k < n → replaced δ (cell (take n (numbered cells)) k) ≡ replaced γ (cell cells k)
    cell_is k l =
        ap (replaced δ) (get_or-take n (numbered cells) k (atom 0) l ∙ cell_renumbered xs cells k)
        ∙ replaced_renumbered γ xs (cell cells k) (known_cell xs cells k (all_appeared_known [] cells))

pub answer_claims : (texts : List (List ℕ)) (bs : List ℕ) (o : Opened) → Opens texts bs o → (p : Place) → Ready o.rules o.query p → (θ : Replacement)
    → Covers o.query.variables p.cells θ → Claims o.query (answer_bytes (slip_of o.rules o.query p)) θ
answer_claims texts bs o h p k θ c =
    subst (λ r. Claimed o.query.variables r θ) (sym read) (covers_numbered o.query.variables p.cells θ c)
  where
    s : Slip
    s = slip_of o.rules o.query p

    fits : FitSlip s
    fits = slip_fits o.rules o.query (well_declared texts bs o h).0 (few texts bs o h) p k

    read : terms_at o.query.variables 2 (answer_bytes s) ≡ Ok (s.terms, 2 + length (encodings Slips s.terms))
    read =
        terms_written (answer_bytes s) 2 o.query.variables s.terms [] (sym (append-nil _))
        (first_count o.rules o.query (well_declared texts bs o h).0 (few texts bs o h) p k) fits.first_fit
