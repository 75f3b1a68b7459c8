-- The choice of a code; and refusal 11, of a record that it does not give. Assumes nothing.
use Rattle.std.specs.Prelude.{Bool, false, cond, ◌&&◌, ℕ, ◌+◌, ◌*◌, ◌/◌, ◌-◌, min, max, ltb, eqb, Option, Some, None, Ok, Err}
use Rattle.refusals.specs.Outcome.{Outcome, refused}
use Rattle.tables.specs.declared.Shape.{Shape}
use Rattle.tables.specs.Graph.{graph_number, shape_of}
use Rattle.ldpc.specs.declared.choice.Code.{Code}

-- z: n_tx / n_b rounded up, at least 1
unfoldable pub lift_of : Shape → ℕ → ℕ
lift_of s n = max 1 ((n + s.n_b - 1) / s.n_b)

-- a family serves when z * m_b < n_tx
unfoldable pub serves : Shape → ℕ → Bool
serves s n = ltb (lift_of s n * s.m_b) n

-- the code of a family that serves: k = n_tx − z × m_b, shortened = z × n_b − n_tx
unfoldable pub code_of : ℕ → ℕ → ℕ → Code
code_of rate family n =
    let s = shape_of (graph_number rate family) in
    record {
      rate = rate;
      n_tx = n;
      family = family;
      z = lift_of s n;
      k = n - lift_of s n * s.m_b;
      shortened = lift_of s n * s.n_b - n;
    }

-- the code of a family, where it serves
unfoldable pub family_code : ℕ → ℕ → ℕ → Option Code
family_code rate family n = cond (serves (shape_of (graph_number rate family)) n) (Some (code_of rate family n)) None

abbrev pub given_else : Outcome Code → Option Code → Outcome Code
given_else rest None = rest
given_else rest (Some c) = Ok c

-- a family's code where it serves, else what the families after it give
unfoldable pub tried_from : ℕ → ℕ → ℕ → Outcome Code → Outcome Code
tried_from rate family n rest = given_else rest (family_code rate family n)

-- what Choice gives: a rate above 5 counts as 5; large, small, tiny; refusal 2, then 1
unfoldable pub chosen : ℕ → ℕ → Outcome Code
chosen rate n =
    let r = min rate 5 in
    cond (ltb 19440 n) (refused 2 n 19440) (tried_from r 0 n (tried_from r 1 n (tried_from r 2 n (refused 1 1 n))))

unfoldable pub same_code : Code → Code → Bool
same_code a b =
    eqb a.rate b.rate
    && eqb a.n_tx b.n_tx
    && eqb a.family b.family
    && eqb a.z b.z
    && eqb a.k b.k
    && eqb a.shortened b.shortened

abbrev pub is_given : Outcome Code → Code → Bool
is_given (Ok d) c = same_code d c
is_given (Err e) c = false

-- refusal 11's test: the record is the one that Choice gives for its rate and n_tx
unfoldable pub made : Code → Bool
made c = is_given (chosen c.rate c.n_tx) c

-- refusal 11, before all others
unfoldable pub if_made : {A : Type 0} → Code → Outcome A → Outcome A
if_made c rest = cond (made c) rest (refused 11 c.rate c.n_tx)
