-- What is sent: the encoding of information that the program computes. The oracle's driver computes the same. Assumes nothing.
use Rattle.std.specs.Prelude.{List, ℕ}
use Rattle.ldpc.specs.declared.choice.Code.{Code}
use Rattle.coder.specs.Calls.{encode_written}
use Rattle.readings.specs.Generator.{random_bits}

-- n bits of information, the same for all readings of a code
abbrev pub information : ℕ → List ℕ
information n = random_bits 4321 n

-- their encoding, in a word's memory
abbrev pub sent : Code → ℕ → List ℕ → List ℕ
sent c n word = encode_written c (information n) word
