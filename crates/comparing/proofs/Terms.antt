-- Reading the terms of a step one after the other. Assumes nothing.
use Rattle.std.proofs.Common.{◌≡◌, ℕ, zero, suc, ◌+◌, ◌-◌, ◌<◌, ◌≤◌, List, [], ◌∷◌, ◌++◌, length, get_or, drop, Some, None, Ok, Err, Option, Result, sym, refl, ap, ◌∙◌, subst, ⊎_elim, append_assoc, arith, length-append}
use Rattle.std.proofs.lemmas.List.{get_or_append_left, get_or-append_right}
use Rattle.std.proofs.lemmas.Bool.{cases_lt}
use Rattle.terms.specs.declared.Form.TheVariants.{Slips}
use Rattle.terms.specs.Terms.{Term, atom}
use Rattle.terms.specs.Bytes.{encodings}
use Rattle.grammar.specs.declared.faults.RuleFault.{RuleFault}
use Rattle.grammar.specs.Encodings.{AllBytes}
use Rattle.grammar.specs.Asking.{go}
use Rattle.grammar.specs.TermCommands.{Commands, end, unfit, place_of, command, commands, terms}
use Rattle.grammar.specs.declared.commands.Command.{Command}
use Rattle.grammar.specs.declared.faults.CommandFault.{CommandFault}
use Rattle.grammar.specs.declared.faults.RuleFault.TheVariants.{Command as InCommand, TermMissing}
use Rattle.grammar.proofs.Taking.{Front, atom_front, pair_front, unknown_front, front, place_first}
use Rattle.grammar.proofs.Counting.{Reading, Counted, counted, with_terms, then_terms, plus, then_others}
use Rattle.grammar.proofs.Encoded.{Encodes, encoded, bytes_drop}
use Rattle.reading.specs.Taking.{first_command, taken_size, left}
use Rattle.reading.proofs.Passing.{took, fewer, Sofar, Declared, then_due, goes_on, finds, at_front}
use Rattle.resolution.specs.Cells.{cell}
use Rattle.slips.specs.Checker.{unknowns, placed, terms_at}
use Rattle.slips.proofs.Written.{ahead}
use Rattle.comparing.specs.Cursors.{Stands, Listed}
use Rattle.comparing.specs.Places.{where_to, Added}

-- ── one term ──

abbrev placed_left : Result Commands RuleFault → Result ℕ RuleFault
placed_left (Ok cs) = Ok (place_of cs)
placed_left (Err e) = Err e

where_left : (r : Reading) → where_to (placed r) ≡ placed_left (left r)
where_left (Ok (ts, cs)) = refl
where_left (Err e) = refl

module _ (slip : List ℕ) (n p : ℕ) where
  -- where the terms end
  pub ends_at : (q : ℕ) (bs : List ℕ) → left (terms unknowns n (commands Slips p (drop p slip))) ≡ Ok (commands Slips q bs) → Ok q ≡ where_to (terms_at n p slip)
  ends_at q bs e = sym (where_left (terms unknowns n (commands Slips p (drop p slip))) ∙ ap placed_left e ∙ ap Ok (place_first Slips q bs))

  -- or their fault
  pub fails_with : (x : RuleFault) → left (terms unknowns n (commands Slips p (drop p slip))) ≡ Err x → Err x ≡ where_to (terms_at n p slip)
  fails_with x e = sym (where_left (terms unknowns n (commands Slips p (drop p slip))) ∙ ap placed_left e)

-- ── the commands of one term ──

declared_front : {b : ℕ} {bs : List ℕ} {c : Command} → Front Slips b bs c → AllBytes bs → Declared unknowns c
declared_front (atom_front k) a = tt
declared_front (pair_front k) a = tt
declared_front (unknown_front k) a = omega (arith, a.0, a.1.0)

-- every number of two bytes may be an unknown's
declared : (p : ℕ) (bs : List ℕ) (c : Command) → AllBytes bs → Ok (Some c) ≡ first_command Slips p bs → Declared unknowns c
declared p [] c a e = absurd cc
declared p (b ∷ bs) c a e = by (command Slips p b bs) refl e
  where
    by : (r : Result Command CommandFault) → command Slips p b bs ≡ r → Ok (Some c) ≡ go r (λ e. e) (λ c. Ok (Some c)) → Declared unknowns c
    by (Ok d) q e = let same : d ≡ c = cc in subst (Declared unknowns) same (declared_front (front Slips p b bs d q) a.1)
    by (Err x) q e = absurd cc

module _ {due p : ℕ} {bs : List ℕ} {n q : ℕ} {cs : List ℕ} (a : AllBytes bs) (s : Sofar Slips unknowns due p bs n q cs) (some : 0 < n) where
  -- the reader has taken a command more
  pub one_command : (o : Option Command) (c : Command) (m r : ℕ) (ds : List ℕ) → o ≡ Some c → Ok o ≡ first_command Slips q cs → ds ≡ drop (taken_size Slips (Ok o)) cs → r ≡ q + taken_size Slips (Ok o)
      → m ≡ then_due (n - 1) c → Sofar Slips unknowns due p bs m r ds × (length ds < length cs)
  one_command o c m r ds e v b k d =
      let t = took Slips q cs o c r ds e v b k in
      (goes_on s some c m r ds t (declared q cs c (subst AllBytes (sym s.went.front) (bytes_drop (q - p) bs a)) (ap Ok (sym e) ∙ v)) d, fewer t)

  -- it stands at the end, or at what begins no term
  pub missing : Ok None ≡ first_command Slips q cs → left (terms unknowns due (commands Slips p bs)) ≡ Err (TermMissing q)
  missing e = finds s some (TermMissing q) (end q) (at_front Slips q cs (Ok None) e) refl

  pub unfit_here : (x : CommandFault) → Err x ≡ first_command Slips q cs → left (terms unknowns due (commands Slips p bs)) ≡ Err (InCommand x)
  unfit_here x e = finds s some (InCommand x) (unfit x) (at_front Slips q cs (Err x) e) refl

-- ── several ──

plus_is : (m n : ℕ) → plus m n ≡ m + n
plus_is zero n = omega arith
plus_is (suc m) n = omega (arith, plus_is m n)

-- the commands of the slip from p on
abbrev pub from : List ℕ → ℕ → Commands
from slip p = commands Slips p (drop p slip)

-- a term that stands at p, and q behind it
record One (slip : List ℕ) (p q : ℕ) : Type 0 where
  pub term : Term
  pub read : terms unknowns 1 (from slip p) ≡ Ok (term ∷ [], from slip q)
  pub stands : Stands slip p (term ∷ [])

one_term : (slip : List ℕ) (p q : ℕ) → AllBytes slip → Ok q ≡ where_to (terms_at 1 p slip) → One slip p q
one_term slip p q a e = by (terms unknowns 1 (from slip p)) refl e (encoded Slips unknowns 1 p (drop p slip) (bytes_drop p slip a)) (counted unknowns 1 (from slip p))
  where
    by : (r : Reading) → terms unknowns 1 (from slip p) ≡ r → Ok q ≡ where_to (placed r) → Encodes Slips unknowns p (drop p slip) r → Counted 1 r → One slip p q
    by (Ok ([], cs)) h e k n = absurd (omega arith)
    by (Ok (t ∷ u ∷ ts, cs)) h e k n = absurd (omega arith)
    by (Ok (t ∷ [], cs)) h e k n =
        let len : ℕ = length (encodings Slips (t ∷ [])) in
        let place : q ≡ p + len = (let same : q ≡ place_of cs = cc in same) ∙ ap place_of k.after ∙ place_first Slips (p + len) k.rest in
        let rest : k.rest ≡ drop (p + len) slip = sym (ahead p slip (encodings Slips (t ∷ [])) k.rest k.split) in
        record {
          term = t;
          read = h ∙ ap (λ c. Ok (t ∷ [], c)) (k.after ∙ ap (commands Slips (p + len)) rest ∙ ap (from slip) (sym place));
          stands = record { rest = k.rest; is = k.split };
        }
    by (Err x) h e k n = absurd cc

one_fails : (slip : List ℕ) (p : ℕ) (x : RuleFault) → Err x ≡ where_to (terms_at 1 p slip) → terms unknowns 1 (from slip p) ≡ Err x
one_fails slip p x e = by (terms unknowns 1 (from slip p)) refl e
  where
    by : (r : Reading) → terms unknowns 1 (from slip p) ≡ r → Err x ≡ where_to (placed r) → terms unknowns 1 (from slip p) ≡ Err x
    by (Ok (ts, cs)) h e = absurd cc
    by (Err y) h e = let same : y ≡ x = cc in h ∙ ap Err same

-- k terms are read, from `place` on to `next`, and where they begin has come to the table
pub record ReadSoFar (slip was table : List ℕ) (place k next : ℕ) : Type 0 where
  pub terms_read : List Term
  pub read : terms unknowns k (from slip place) ≡ Ok (terms_read, from slip next)
  pub added : Added was table k
  pub stand : (j : ℕ) → j < k → Stands slip (get_or added.more j 0) (cell terms_read j ∷ [])

count_of_read : (k : ℕ) (cs left : Commands) (ts : List Term) → terms unknowns k cs ≡ Ok (ts, left) → length ts ≡ k
count_of_read k cs left ts e = subst (Counted k) e (counted unknowns k cs)

module _ {slip was table : List ℕ} {place k next : ℕ} (bytes : AllBytes slip) (s : ReadSoFar slip was table place k next) where
  pub one_more_read : (q : ℕ) (table2 : List ℕ) → table2 ≡ table ++ next ∷ [] → Ok q ≡ where_to (terms_at 1 next slip) → ReadSoFar slip was table2 place (k + 1) q
  one_more_read q table2 put e =
      record {
        terms_read = s.terms_read ++ (o.term ∷ []);
        read =
            ap (λ n. terms unknowns n (from slip place)) (sym (plus_is k 1))
            ∙ then_others unknowns k 1 (from slip place)
            ∙ ap (λ r. then_terms r (terms unknowns 1)) s.read
            ∙ ap (with_terms s.terms_read) o.read;
        added =
            record {
              more = more ++ next ∷ [];
              together = put ∙ ap (λ t. t ++ next ∷ []) s.added.together ∙ append_assoc was more (next ∷ []);
              count = omega (arith, length-append more (next ∷ []), s.added.count);
            };
        stand = λ j l. ⊎_elim (older j) (newest j l) (cases_lt j k);
      }
    where
      more : List ℕ
      more = s.added.more

      o : One slip next q
      o = one_term slip next q bytes e

      count : length s.terms_read ≡ k
      count = count_of_read k (from slip place) (from slip next) s.terms_read s.read

      older : (j : ℕ) → j < k → Stands slip (get_or (more ++ next ∷ []) j 0) (cell (s.terms_read ++ (o.term ∷ [])) j ∷ [])
      older j l =
          subst (λ n. Stands slip n (cell (s.terms_read ++ (o.term ∷ [])) j ∷ [])) (sym (get_or_append_left more (next ∷ []) 0 j (omega (arith, s.added.count))))
          (subst (λ t. Stands slip (get_or more j 0) (t ∷ [])) (sym (get_or_append_left s.terms_read (o.term ∷ []) (atom 0) j (omega (arith, count)))) (s.stand j l))

      newest : (j : ℕ) → j < k + 1 → k ≤ j → Stands slip (get_or (more ++ next ∷ []) j 0) (cell (s.terms_read ++ (o.term ∷ [])) j ∷ [])
      newest j l m =
          let none : j - k ≡ 0 = omega arith in
          let term : get_or (s.terms_read ++ (o.term ∷ [])) j (atom 0) ≡ o.term = get_or-append_right s.terms_read (o.term ∷ []) k j (atom 0) count m ∙ ap (λ n. get_or (o.term ∷ []) n (atom 0)) none in
          let begin : get_or (more ++ next ∷ []) j 0 ≡ next = get_or-append_right more (next ∷ []) k j 0 s.added.count m ∙ ap (λ n. get_or (next ∷ []) n 0) none in
          subst (λ n. Stands slip n (cell (s.terms_read ++ (o.term ∷ [])) j ∷ [])) (sym begin) (subst (λ t. Stands slip next (t ∷ [])) (sym term) o.stands)

  -- a fault at the next term is the fault of all
  pub fault_read : (n : ℕ) (x : RuleFault) → k < n → Err x ≡ where_to (terms_at 1 next slip) → Err x ≡ where_to (terms_at n place slip)
  fault_read n x l e =
      let m : n ≡ plus k (plus 1 (n - k - 1)) = (let q : n ≡ k + suc (n - k - 1) = omega arith in q) ∙ sym (plus_is k (suc (n - k - 1))) in
      sym
      (ap (λ i. where_to (terms_at i place slip)) m
      ∙ ap (λ r. where_to (placed r))
      (then_others unknowns k (plus 1 (n - k - 1)) (from slip place)
      ∙ ap (λ r. then_terms r (terms unknowns (plus 1 (n - k - 1)))) s.read
      ∙ ap (with_terms s.terms_read) (then_others unknowns 1 (n - k - 1) (from slip next) ∙ ap (λ r. then_terms r (terms unknowns (n - k - 1))) (one_fails slip next x e))))

abbrev first_terms : Result (List Term × ℕ) RuleFault → List Term
first_terms (Ok (ts, p)) = ts
first_terms (Err e) = []

-- all of them
module _ {slip was table : List ℕ} {place k next : ℕ} (s : ReadSoFar slip was table place k next) where
  all_are : terms_at k place slip ≡ Ok (s.terms_read, next)
  all_are = ap placed s.read ∙ ap (λ n. Ok (s.terms_read, n)) (place_first Slips next (drop next slip))

  pub all_read : Ok next ≡ where_to (terms_at k place slip)
  all_read = sym (ap where_to all_are)

  pub all_listed : (ts : List Term) (q : ℕ) → terms_at k place slip ≡ Ok (ts, q) → Listed slip table (length was) ts
  all_listed ts q e =
      let same : s.terms_read ≡ ts = ap first_terms (sym all_are ∙ e) in
      let count = count_of_read k (from slip place) (from slip next) s.terms_read s.read in
      let t = s.added in
      let there : (j : ℕ) → get_or table (length was + j) 0 ≡ get_or t.more j 0 = λ j. (ap (λ l. get_or l (length was + j) 0) t.together
      ∙ get_or-append_right was t.more (length was) (length was + j) 0 refl (omega arith) ∙ ap (λ n. get_or t.more n 0) (let n : (length was + j) - length was ≡ j = omega arith in n)) in
      subst (Listed slip table (length was)) same (record {
        within = omega (arith, ap length t.together, length-append was t.more, t.count, count);
        stand = λ j l. subst (λ n. Stands slip n (cell s.terms_read j ∷ [])) (sym (there j)) (s.stand j (omega arith));
      })

-- terms that end at q
pub record TermsRead (slip : List ℕ) (n p q : ℕ) : Type 0 where
  pub terms_are : List Term
  pub read : terms_at n p slip ≡ Ok (terms_are, q)
  pub count : length terms_are ≡ n

pub terms_read_at : (slip : List ℕ) (n p q : ℕ) → Ok q ≡ where_to (terms_at n p slip) → TermsRead slip n p q
terms_read_at slip n p q e = by (terms unknowns n (from slip p)) refl (counted unknowns n (from slip p)) e
  where
    by : (r : Reading) → terms unknowns n (from slip p) ≡ r → Counted n r → Ok q ≡ where_to (placed r) → TermsRead slip n p q
    by (Ok (ts, cs)) h k e = let same : q ≡ place_of cs = cc in record { terms_are = ts; read = ap placed h ∙ ap (λ m. Ok (ts, m)) (sym same); count = k }
    by (Err x) h k e = absurd cc

pub terms_fail_at : (slip : List ℕ) (n p : ℕ) (x : RuleFault) → Err x ≡ where_to (terms_at n p slip) → terms_at n p slip ≡ Err x
terms_fail_at slip n p x e = by (terms_at n p slip) refl e
  where
    by : (r : Result (List Term × ℕ) RuleFault) → terms_at n p slip ≡ r → Err x ≡ where_to r → terms_at n p slip ≡ Err x
    by (Ok (ts, q)) h e = absurd cc
    by (Err y) h e = let same : y ≡ x = cc in h ∙ ap Err same
