-- What opening copies, and what comes of it. Assumes nothing.
use Rattle.std.proofs.Common.{◌≡◌, ℕ, suc, ◌+◌, ◌<◌, ◌≤◌, Bool, true, leb, List, [], ◌∷◌, ◌++◌, length, reverse, get_or, take, None, Ok, Err, Result, sym, refl, ap, ◌∙◌, subst, ap₂, arith, append-nil, append_assoc, length-append, length-take-le, le-leb, take-suc}
use Rattle.terms.specs.Terms.{Term, Query}
use Rattle.grammar.specs.declared.faults.SingleFault.{SingleFault}
use Rattle.grammar.specs.Asking.{ask, go}
use Rattle.grammar.specs.Items.{most_bytes, most_rules}
use Rattle.grammar.specs.Encodings.{AllBytes}
use Rattle.grammar.specs.Singles.{rule, query}
use Rattle.grammar.specs.Texts.{all_fit, total}
use Rattle.slips.specs.declared.faults.OpeningFault.TheVariants.{InQuery, TooManyRules, TooManyBytes}
use Rattle.slips.specs.Opening.{rule_or_none, rules_in, Opened, opening}
use Rattle.resolution.specs.Search.{opened}
use Rattle.resolution.specs.Cells.{fresh}
use Rattle.bindings.specs.Trails.{none_bound}
use Rattle.bindings.specs.Texts.{Holds}
use Rattle.bindings.proofs.Encodings.{holds_after, holds_more}
use Rattle.branches.specs.declared.Clause.{Clause}
use Rattle.branches.specs.Rows.{row, Declared}
use Rattle.branches.specs.Clauses.{rules_at}
use Rattle.branches.specs.Branches.{At, place, InOrder}
use Rattle.branches.specs.Tests.{all_stated?}
use Rattle.branches.specs.Copies.{flat, clause_of, clauses_from}
use Rattle.branches.proofs.Copies.{flat_push, flat_length, clauses_push, total_take, total_part, AskedAt, query_at, copied_stated, copied_rules}
use Rattle.branches.proofs.Moves.{at_start, start_place, start_in_order}
use Rattle.machine.specs.Branches.{taken}
use Rattle.machine.specs.declared.text.Text.{Text}
use Rattle.machine.specs.States.{State, text_of, rules_of, query_of, at_of, place_of, Good, good}
use Rattle.machine.proofs.States.{good_true, at_as}
use Rattle.machine.specs.Openings.{Appended, AllCopied}
use Rattle.grammar.proofs.Alone.{queries_inverse}
use Rattle.reading.specs.Views.{seen, QueryView, query_shown}

-- ── a rule's bytes, one after the other ──

-- as far as the bytes `whole` were put behind others: the bytes in front are there, and those behind are left
pub record Laying (others whole front behind now : List ℕ) : Type 0 where
  pub parts : whole ≡ front ++ behind
  pub laid : now ≡ others ++ front
  pub room : length now ≤ 16384

pub laying_none : (others whole behind : List ℕ) → behind ≡ whole → length others ≤ 16384 → Laying others whole [] behind others
laying_none others whole behind e l = record { parts = sym e; laid = sym (append-nil others); room = l }

module _ (others whole front behind now : List ℕ) (l : Laying others whole front behind now) where
  module _ (b : ℕ) (rest : List ℕ) (e : behind ≡ b ∷ rest) where
    pub laying_more : (more : List ℕ) → more ≡ now ++ b ∷ [] → length more ≤ 16384 → Laying others whole (front ++ b ∷ []) rest more
    laying_more more m r =
        record {
          parts = l.parts ∙ ap (λ (bs : List ℕ). front ++ bs) e ∙ sym (append_assoc front (b ∷ []) rest);
          laid = m ∙ ap (λ (bs : List ℕ). bs ++ b ∷ []) l.laid ∙ append_assoc others front (b ∷ []);
          room = r;
        }

    -- no room for the byte: none for them all
    pub laying_full : length now ≡ 16384 → 16384 < length others + length whole
    laying_full full =
        omega (arith, full, ap length l.laid, length-append others front, ap length l.parts, length-append front behind, ap length e)

  pub laid_all : behind ≡ [] → now ≡ others ++ whole
  laid_all e = l.laid ∙ ap (λ (bs : List ℕ). others ++ bs) (sym (l.parts ∙ ap (λ (bs : List ℕ). front ++ bs) e ∙ append-nil front))

-- ── the rules, one after the other ──

clauses_count : (p : ℕ) (ts : List (List ℕ)) → length (clauses_from p ts) ≡ length ts
clauses_count p [] = refl
clauses_count p (t ∷ ts) = ap suc (clauses_count (p + length t) ts)

module _ (t : Text) where
  pub copied_none : length t.bytes ≤ 16384 → AllCopied t [] t []
  copied_none l =
      record {
        appended = record { room = omega (arith, l); bytes = sym (append-nil t.bytes) };
        clauses = refl;
      }

  module _ (ts : List (List ℕ)) (i : ℕ) (there : i < length ts) (t₁ : Text) (cs : List Clause) (so_far : AllCopied t (take i ts) t₁ cs) where
    pub length_so_far : length t₁.bytes ≡ length t.bytes + total (take i ts)
    length_so_far =
        ap length so_far.appended.bytes ∙ length-append t.bytes (flat (take i ts)) ∙ ap (λ (n : ℕ). length t.bytes + n) (flat_length (take i ts))

    pub room_so_far : length t₁.bytes ≤ 16384
    room_so_far = omega (arith, so_far.appended.room, length_so_far, flat_length (take i ts))

    pub count_so_far : length cs ≡ i
    count_so_far = ap length so_far.clauses ∙ clauses_count (length t.bytes) (take i ts) ∙ length-take-le i ts (omega (arith, there))

    -- No room for a rule: no room for them all.
    pub too_many : 16384 < length t₁.bytes + length (get_or ts i []) → 16384 < length t.bytes + total ts
    too_many l = omega (arith, l, length_so_far, total_take ts i there, total_part ts (suc i))

    module _ (t₂ : Text) (one : Appended t₁ (get_or ts i []) t₂) where
      -- The rule stands where it was copied to.
      pub rule_holds : Holds t₂.bytes (length t₁.bytes) (get_or ts i [])
      rule_holds =
          subst (λ (x : List ℕ). Holds x (length t₁.bytes) (get_or ts i [])) (sym one.bytes) (holds_after t₁.bytes (get_or ts i []))

      pub size_after : length t₂.bytes ≤ 16384
      size_after = omega (arith, ap length one.bytes, length-append t₁.bytes (get_or ts i []), one.room)

      module _ (c : Clause) (is : c ≡ clause_of (length t₁.bytes) (rule_or_none (rule (get_or ts i [])))) where
        more : take (i + 1) ts ≡ take i ts ++ (get_or ts i [] ∷ [])
        more =
            let n : i + 1 ≡ suc i = omega arith in
            ap (λ (n : ℕ). take n ts) n ∙ take-suc ts i [] there

        flat_more : flat (take (i + 1) ts) ≡ flat (take i ts) ++ get_or ts i []
        flat_more = ap flat more ∙ flat_push (take i ts) (get_or ts i [])

        length_more : length (flat (take (i + 1) ts)) ≡ length (flat (take i ts)) + length (get_or ts i [])
        length_more = ap length flat_more ∙ length-append (flat (take i ts)) (get_or ts i [])

        appended_more : Appended t (flat (take (i + 1) ts)) t₂
        appended_more =
            record {
              room = omega (arith, one.room, length_so_far, flat_length (take i ts), length_more);
              bytes =
                  one.bytes ∙ ap (λ (bs : List ℕ). bs ++ get_or ts i []) so_far.appended.bytes
                  ∙ append_assoc t.bytes (flat (take i ts)) (get_or ts i []) ∙ ap (λ (bs : List ℕ). t.bytes ++ bs) (sym flat_more);
            }

        clauses_more : cs ++ (c ∷ []) ≡ clauses_from (length t.bytes) (take (i + 1) ts)
        clauses_more =
            ap₂ (λ (x : List Clause) (y : Clause). x ++ (y ∷ [])) so_far.clauses
            (is ∙ ap (λ (p : ℕ). clause_of p (rule_or_none (rule (get_or ts i [])))) length_so_far)
            ∙ sym (ap (clauses_from (length t.bytes)) more ∙ clauses_push (length t.bytes) (take i ts) (get_or ts i []))

        pub copied_more : AllCopied t (take (i + 1) ts) t₂ (cs ++ (c ∷ []))
        copied_more =
            record {
              appended = appended_more;
              clauses = clauses_more;
            }

-- ── the state ──

-- a state in order, with these rules and this query, as at opening
pub record Open (s : State) (o : Opened) : Type 0 where
  pub kept : good s ≡ true
  pub rules : rules_of s ≡ o.rules
  pub query : query_of s ≡ o.query
  pub place : place_of s ≡ (opened o.query).place

module _ (s : State) (ts : List (List ℕ)) (bs : List ℕ) (q : Query) (fit : all_fit ts ≡ true) (all : AllBytes bs) (reads : query bs ≡ Ok q) (few : length ts ≤ 1024)
    (t : Text) (first : t.bytes ≡ bs) (copied : AllCopied t ts s.tables.text s.clauses) where
  text_is : text_of s ≡ bs ++ flat ts
  text_is = copied.appended.bytes ∙ ap (λ (x : List ℕ). x ++ flat ts) first

  room : length bs + length (flat ts) ≤ 16384
  room = omega (arith, copied.appended.room, ap length first)

  length_is : length (text_of s) ≤ 16384
  length_is = omega (arith, ap length text_is, length-append bs (flat ts), room)

  query_holds : Holds (text_of s) 0 bs
  query_holds = subst (λ (x : List ℕ). Holds x 0 bs) (sym text_is) (holds_more 0 bs bs (flat ts) (holds_after [] bs))

  rules_hold : Holds (text_of s) (length bs) (flat ts)
  rules_hold = subst (λ (x : List ℕ). Holds x (length bs) (flat ts)) (sym text_is) (holds_after bs (flat ts))

  clauses_are : s.clauses ≡ clauses_from (length bs) ts
  clauses_are = copied.clauses ∙ ap (λ (x : List ℕ). clauses_from (length x) ts) first

  asked : AskedAt (text_of s) q
  asked = query_at (text_of s) bs q all reads query_holds

  -- what the definition comes to
  pub opening_is : opening ts bs ≡ Ok (record { rules = rules_in ts; query = q })
  opening_is =
      ap (λ (r : Result Query SingleFault). go r InQuery (λ x. ask (leb (length ts) most_rules) TooManyRules (ask (leb (total ts + length bs) most_bytes) TooManyBytes (Ok (record { rules = rules_in ts; query = x }))))) reads
      ∙ ap (λ (b : Bool). ask b TooManyRules (ask (leb (total ts + length bs) most_bytes) TooManyBytes (Ok (record { rules = rules_in ts; query = q })))) (le-leb (length ts) most_rules few)
      ∙ ap (λ (b : Bool). ask b TooManyBytes (Ok (record { rules = rules_in ts; query = q }))) (le-leb (total ts + length bs) most_bytes (omega (arith, room, flat_length ts)))

  module _ (free : (i : ℕ) → get_or s.tables.cells.table i None ≡ None) (many : length s.tables.cells.table ≡ 2048) (cells : s.tables.cells.used ≡ q.variables)
      (newest : s.tables.cells.newest ≡ none_bound) (steps : taken s.tables.branch ≡ []) (depth : s.tables.branch.depth ≤ 512)
      (variables : s.question.variables ≡ q.variables) (at : s.question.place ≡ 5) (count : s.question.goals ≡ length q.goals)
      (goals : s.goals ≡ record { place = 5; level = 0; left = length q.goals; above = None }) (due : s.due ≡ 0) where
    abbrev start : At
    start = at_start (text_of s) q.variables 5 (length q.goals) s.tables.cells.table free

    is_start : at_of s ≡ start
    is_start = at_as (ap reverse steps) refl newest cells goals due

    open_good : Good s
    open_good =
        record {
          order =
              subst (λ (v : ℕ). InOrder (text_of s) s.clauses v (at_of s)) (sym variables)
              (subst (InOrder (text_of s) s.clauses q.variables) (sym is_start)
              (start_in_order (text_of s) q.variables 5 (length q.goals) s.tables.cells.table free s.clauses (omega (arith, length_is))
              (omega (arith, asked.few, many)) (omega (arith, many)) asked.declared));
          stated = ap (all_stated? (text_of s)) clauses_are ∙ copied_stated (text_of s) (length bs) ts fit rules_hold;
          asked =
              subst (λ (v : ℕ). Declared (text_of s) v s.question.place s.question.goals) (sym variables)
              (subst (λ (p : ℕ). Declared (text_of s) q.variables p s.question.goals) (sym at)
              (subst (Declared (text_of s) q.variables 5) (sym count) asked.declared));
          depth = depth;
          count = omega (arith, ap length clauses_are, clauses_count (length bs) ts, few);
          all_cells = many;
        }

    pub open_is : Open s (record { rules = rules_in ts; query = q })
    open_is =
        record {
          kept = good_true s open_good;
          rules = ap (rules_at (text_of s)) clauses_are ∙ copied_rules (text_of s) (length bs) ts fit rules_hold;
          query =
              ap₂ (λ (v : ℕ) (gs : List Term). record { variables = v; goals = gs }) variables
              (ap₂ (λ (p n : ℕ). row (text_of s) p n) at count ∙ asked.is);
          place =
              ap (place (text_of s)) is_start ∙ start_place (text_of s) q.variables 5 (length q.goals) s.tables.cells.table free
              ∙ ap (λ (gs : List Term). record { goals = gs; due = 0; cells = fresh 0 q.variables; branch = [] }) asked.is;
        }

-- ── the query that was read ──

pub record Asked (bs : List ℕ) (v : QueryView) : Type 0 where
  pub is : Query
  pub reads : query bs ≡ Ok is
  pub view : v ≡ query_shown is
  pub short : length bs ≤ 517

pub asked_of : (bs : List ℕ) (v : QueryView) → AllBytes bs → Ok v ≡ seen query_shown (query bs) → Asked bs v
asked_of bs v all e = by (query bs) refl e
  where
    by : (r : Result Query SingleFault) → query bs ≡ r → Ok v ≡ seen query_shown r → Asked bs v
    by (Ok q) is e =
        let k = queries_inverse.only_encodings bs q all is in
        record { is = q; reads = is; view = (let same : v ≡ query_shown q = cc in same); short = omega (arith, ap length k.1, k.0.short) }
    by (Err x) is e = let z : ◌≡◌ {A = ℕ} 0 1 = cc in absurd (omega arith)
