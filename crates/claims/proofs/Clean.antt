-- The claim of clean: every accepted read, whatever its record and its memory, shows clean exactly when it shows converged and its word is the
-- encoding of its own information bits. Assumes nothing.
use Rattle.std.specs.Prelude.{Ok}
use mathlib.Core.Path.{◌≡◌, sym, subst}
use mathlib.Core.Bool.{true, and-eq-true_iff}
use mathlib.Core.Logic.{◌↔◌}
use mathlib.Core.List.{List}
use Prim.Native.Nat.{ℕ}
use borrow.Author.Tests.{eq-eqb, eqb-true}
use lib.Dec.{eqb}
use lib.ListN.{length, take}
use lib.Ieee.{Float}
use Rattle.refusals.specs.Outcome.{Outcome, after}
use Rattle.ldpc.specs.declared.choice.Code.{Code}
use Rattle.ldpc.specs.Choice.{made}
use Rattle.coder.specs.Calls.{unsatisfied_of, encoding_of}
use Rattle.coder.proofs.Theorems.{codeword}
use Rattle.word.proofs.Word.{word_long, word_bits}
use Rattle.decoder.specs.declared.record.Decode.{Decode}
use Rattle.decoder.specs.declared.record.DecodeResult.{DecodeResult}
use Rattle.word.specs.Word.{word_of}
use Rattle.decoder.specs.Decoding.{progress_of, result_of}
use Rattle.decoder.specs.Calls.{read_told, read_written}
use Rattle.claims.proofs.Cases.{made_cases, length_cases, work_cases, never}

-- an accepted read had a code that Choice gives
read_given : (d : Decode) (w : List Float) (room : ℕ) (x : DecodeResult) → read_told d w room ≡ Ok x
    → (made d.code ≡ true) × (result_of d.code (progress_of d w) ≡ x)
unfolding read_told
read_given d w room x =
    made_cases P never d.code
    (λ m. length_cases P never 9 room d.code.n_tx
    (λ l. work_cases P never d.code (length w) (λ h e. (m, cc))))
  where
    P : Outcome DecodeResult → Type 0
    P t = t ≡ Ok x → (made d.code ≡ true) × (result_of d.code (progress_of d w) ≡ x)

-- the encoding of its own information bits
Encoded : Code → List ℕ → Type 0
Encoded c word = word ≡ encoding_of c (take c.k word)

-- the codeword theorem, of the word that is read
clean_result : (d : Decode) (w : List Float) → made d.code ≡ true
    → ((result_of d.code (progress_of d w)).clean ≡ true) ↔ ((d.converged ≡ true) × Encoded d.code (word_of d.code w))
unfolding result_of progress_of Encoded
clean_result d w m =
    let word = codeword d.code m (word_of d.code w) (word_long d.code w) (word_bits d.code w) in
    let both = and-eq-true_iff d.converged (eqb (unsatisfied_of d.code (word_of d.code w)) 0) in
    (λ e. ((both.0 e).0, word.0 (eqb-true _ 0 (both.0 e).1)), λ k. both.1 (k.0, eq-eqb _ 0 (word.1 k.1)))

pub clean : (d : Decode) (w : List Float) (out : List ℕ) (x : DecodeResult) → read_told d w (length out) ≡ Ok x
    → (x.clean ≡ true)
    ↔ ((x.converged ≡ true) × (read_written d w out ≡ encoding_of d.code (take d.code.k (read_written d w out))))
unfolding read_written Encoded result_of progress_of
clean d w out x e =
    let (m, is) = read_given d w (length out) x e in
    subst (λ (r : DecodeResult). (r.clean ≡ true) ↔ ((r.converged ≡ true) × Encoded d.code (read_written d w out))) is
    (subst (λ (t : Outcome DecodeResult). ((result_of d.code (progress_of d w)).clean ≡ true)
    ↔ ((d.converged ≡ true) × Encoded d.code (after t (λ _. word_of d.code w) out))) (sym e) (clean_result d w m))
