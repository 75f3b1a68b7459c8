-- A record written to numbers and read back is the record. Assumes nothing.
use mathlib.Core.Path.{◌≡◌, refl, ap}
use mathlib.Core.Bool.{Bool, true, false}
use Prim.Native.Nat.{◌<◌}
use lib.Dec.{eqb, ltb}
use borrow.Author.Tests.{lt-ltb}
use Rattle.matrix.specs.Encoding.{bit}
use Rattle.ldpc.specs.declared.choice.Code.{Code}
use Rattle.decoder.specs.declared.record.Decode.{Decode}
use Rattle.boundary.specs.Answers.{code_numbers, code_in, decode_numbers, decode_in, is_decode}

pub code_back : (c : Code) → code_in (code_numbers c) ≡ c
unfolding code_in
code_back c = refl

bit_back : (b : Bool) → eqb (bit b) 1 ≡ b
bit_back true = refl
bit_back false = refl

pub decode_back : (d : Decode) → decode_in (decode_numbers d) ≡ d
unfolding code_in decode_in
decode_back d = ap (λ b. record { code = d.code; iterations = d.iterations; converged = b }) (bit_back d.converged)

bit_fits : (b : Bool) → ltb (bit b) 2 ≡ true
bit_fits true = refl
bit_fits false = refl

-- so a record that a call Ok is refused by none as numbers that are no record
pub decode_is : (d : Decode) → d.iterations < 65536 → is_decode (decode_numbers d) ≡ true
unfolding is_decode
decode_is d h = rw (lt-ltb d.iterations 65536 h) (bit_fits d.converged)
