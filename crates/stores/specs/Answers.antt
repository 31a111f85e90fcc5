-- What a store answers, from the list of rules that it means. Assumes nothing.
use Rattle.std.specs.Prelude.{ℕ, min, cond, List, [], length, drop, Some, None, Option, nat_lt, slice_index, slice_index_or}

-- this number is no rule's
abbrev pub no_number : ℕ
no_number = 65535

-- the length of the list, or 65,535 if it is longer
abbrev pub count_of : List (List ℕ) → ℕ
count_of ts = min (length ts) no_number

-- what is asked of the rule with the number i, absent where there is no such rule
abbrev pub of_rule : {X : Type 0} → (List ℕ → Option X) → List (List ℕ) → ℕ → Option X
of_rule ask ts i = cond (nat_lt i (count_of ts)) (ask (slice_index_or ts i [])) None

-- its bytes
abbrev pub text_of : List (List ℕ) → ℕ → Option (List ℕ)
text_of ts i = of_rule (λ t. Some t) ts i

-- the number of its bytes
abbrev pub size_of : List (List ℕ) → ℕ → Option ℕ
size_of ts i = of_rule (λ t. Some (length t)) ts i

-- its byte at j, absent where there is none
abbrev pub byte_at : ℕ → List ℕ → Option ℕ
byte_at j t = cond (nat_lt j (length t)) (Some (slice_index t j)) None

abbrev pub byte_of : List (List ℕ) → ℕ → ℕ → Option ℕ
byte_of ts i j = of_rule (byte_at j) ts i

-- all its bytes, none where there is no such rule
abbrev pub bytes_of : List (List ℕ) → ℕ → List ℕ
bytes_of ts i = cond (nat_lt i (count_of ts)) (slice_index_or ts i []) []

-- those from j on
abbrev pub bytes_from : List (List ℕ) → ℕ → ℕ → List ℕ
bytes_from ts i j = drop j (bytes_of ts i)
