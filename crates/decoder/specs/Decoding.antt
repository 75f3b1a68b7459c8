-- The decode record and the run that it stands for, and what a read tells. Assumes nothing.
use Rattle.std.specs.Prelude.{◌&&◌, List, eqb, Float}
use Rattle.laws.specs.Run.{Progress}
use Rattle.ldpc.specs.declared.choice.Code.{Code}
use Rattle.coder.specs.Calls.{unsatisfied_of}
use Rattle.word.specs.Word.{word_of}
use Rattle.decoder.specs.declared.record.Decode.{Decode}
use Rattle.decoder.specs.declared.record.DecodeResult.{DecodeResult}

-- the record of a decode that has got so far, and how far a record and its memory have got
unfoldable pub record_of : Code → Progress (List Float) → Decode
record_of c p = record { code = c; iterations = p.iterations; converged = p.converged }

unfoldable pub progress_of : Decode → List Float → Progress (List Float)
progress_of d w = record { memory = w; iterations = d.iterations; converged = d.converged }

-- iterations, converged and clean: converged, and the word has 0 unsatisfied checks
unfoldable pub result_of : Code → Progress (List Float) → DecodeResult
result_of c p =
    record {
      iterations = p.iterations;
      converged = p.converged;
      clean = p.converged && eqb (unsatisfied_of c (word_of c p.memory)) 0;
    }
