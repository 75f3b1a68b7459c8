-- The calls of a list: how one is drawn, and what it is to refuse. Assumes nothing.
use Rattle.std.specs.Prelude.{Bool, true, false, cond, ◌&&◌, ℕ, ◌+◌, ◌-◌, ◌/◌, ◌%◌, eqb, ltb, Option, Some, None}
use Rattle.refusals.specs.declared.Refusal.{Refusal}
use Rattle.refusals.specs.declared.Refusal.TheVariants.{Work, Output, Iterations, Record}
use Rattle.ldpc.specs.Getters.{work_told}
use Rattle.decoder.specs.declared.record.Decode.{Decode}
use Rattle.soak.specs.Totals.{joined}
use Rattle.soak.specs.declared.calls.Call.{Call}
use Rattle.soak.specs.declared.calls.Call.TheVariants.{Grant, Read}

-- the iterations of a grant: 0 to 4; where some are done, more than may be; of a converged decode, as many as may be
unfoldable pub amount_of : ℕ → Decode → ℕ
amount_of draw d =
    cond (eqb (draw % 8) 5 && ltb 0 d.iterations) 65535
    (cond (eqb (draw % 8) 6 && d.converged) (65535 - d.iterations) (draw % 8 % 5))

-- the work memory lent: half of what is needed, one number less, as much, or all there is
unfoldable pub lent_of : ℕ → ℕ → ℕ → ℕ
lent_of draw needed all =
    cond (eqb (draw % 16) 0) (needed / 2) (cond (eqb (draw % 16) 1) (needed - 1) (cond (eqb (draw % 16) 2) needed all))

-- the output of a read: too short, too long, or right
unfoldable pub room_of : ℕ → ℕ → ℕ
room_of draw n = cond (eqb (draw % 16) 0) (n / 2) (cond (eqb (draw % 16) 1) (joined n 1) n)

-- the call that a state draws
unfoldable pub call_of : ℕ → Decode → ℕ → Call
call_of state d all =
    let lent = lent_of (state / 24) (work_told d.code) all in
    let changed = eqb (state / 6144 % 8) 5 in
    cond (eqb (state % 3) 0) (Read (room_of (state / 384) d.code.n_tx) lent changed) (Grant (amount_of (state / 3) d) lent changed)

-- a read with nothing amiss
unfoldable pub plain_of : Decode → ℕ → Call
plain_of d all = Read d.code.n_tx all false

abbrev pub is_grant : Call → Bool
is_grant (Grant g lent changed) = true
is_grant (Read room lent changed) = false

-- the record with half its k, which no code has
unfoldable pub changed_of : Decode → Bool → Decode
changed_of d changed = cond changed (record d { code = record d.code { k = d.code.k / 2 } }) d

-- a grant's order: 11, 8, 10
unfoldable pub grant_refusal : Decode → ℕ → ℕ → Bool → Option Refusal
grant_refusal d g lent changed =
    cond changed (Some (Record d.code.rate d.code.n_tx))
    (cond (ltb lent (work_told d.code)) (Some (Work lent (work_told d.code)))
    (cond (ltb 65535 (d.iterations + g)) (Some (Iterations (d.iterations + g))) None))

-- a read's order: 11, 9, 8
unfoldable pub read_refusal : Decode → ℕ → ℕ → Bool → Option Refusal
read_refusal d room lent changed =
    cond changed (Some (Record d.code.rate d.code.n_tx))
    (cond (eqb room d.code.n_tx)
    (cond (ltb lent (work_told d.code)) (Some (Work lent (work_told d.code))) None)
    (Some (Output room d.code.n_tx)))

-- what a call is to refuse
unfoldable pub refusal_of : Decode → Call → Option Refusal
refusal_of d (Grant g lent changed) = grant_refusal d g lent changed
refusal_of d (Read room lent changed) = read_refusal d room lent changed
