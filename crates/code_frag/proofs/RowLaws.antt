-- Laws of rows of steps: one after another, what they are as a run, and rising addresses.
use Rattle.std.proofs.Common.{◌≡◌, ◌≢◌, ℕ, ◌+◌, ◌*◌, ◌<◌, ◌≤◌, List, [], ◌∷◌, ◌++◌, length, refl, sym, ap, subst, ◌∙◌, arith, append_assoc, append-nil}
use Rattle.bv_run.specs.Runs.{Going, after_turn, with_front, run}
use Rattle.bv_run.proofs.RunLaws.{Leads, run-zero, run-suc, run-with_front}
use Rattle.arm2_machine.specs.Machine.{Machine}
use Rattle.arm2_machine.specs.Step.{board_step}
use Rattle.arm_core.specs.Core.{Core, IsAt}
use Rattle.arm_core.specs.Made.{Makes}
use Rattle.code_frag.specs.Rows.{Row, Rising}

pub row_append : (ps qs : List ℕ) (a b c : Machine) (x y : List ℕ) → Row ps a x b → Row qs b y c → Row (ps ++ qs) a (x ++ y) c
row_append [] qs a b c x y first second = subst (λ bytes. Row qs a (bytes ++ y) c) (sym first.0) (subst (λ m. Row qs m y c) (sym first.1) second)
row_append (p ∷ ps) qs a b c x y first second =
    (first.0, first.1, first.2 ++ y, first.3, first.4, ap (λ l. l ++ y) first.5 ∙ append_assoc first.1 first.2 y, row_append ps qs first.0 b c first.2 y first.6 second)

-- one step
pub row_step : (s t : Core) (pc to : ℕ) (m : Machine) (made : Makes s m to t) → IsAt s pc m → Row (pc ∷ []) m made.bytes made.machine
row_step s t pc to m made is = (made.machine, made.bytes, [], is.pc, made.goes, sym (append-nil made.bytes), (refl, refl))

-- a row is a run of as many steps
pub row_run : (ps : List ℕ) (m last : Machine) (bytes : List ℕ) → Row ps m bytes last → run board_step (length ps) m [] ≡ Going last bytes
row_run [] m last bytes row = run-zero board_step m [] ∙ (λ i. Going (row.1 i) (sym row.0 i))
row_run (p ∷ ps) m last bytes row =
    run-suc board_step (length ps) m []
    ∙ ap (λ t. after_turn t (run board_step (length ps)) []) row.4
    ∙ ap (run board_step (length ps) row.0) (sym (append-nil row.1))
    ∙ run-with_front board_step (length ps) row.0 row.1 []
    ∙ ap (with_front row.1) (row_run ps row.0 last row.2 row.6)
    ∙ ap (Going last) (sym row.5)

-- ---- rising addresses

pub rising_bounds : (ps : List ℕ) (low high : ℕ) → Rising ps low high → low ≤ high
rising_bounds [] low high rise = rise
rising_bounds (p ∷ ps) low high rise = omega (arith, rise.0, rising_bounds ps (p + 4) high rise.1)

pub rising_from : (ps : List ℕ) (less low high : ℕ) → less ≤ low → Rising ps low high → Rising ps less high
rising_from [] less low high before rise = omega (arith, before, rise)
rising_from (p ∷ ps) less low high before rise = (omega (arith, before, rise.0), rise.1)

pub rising_to : (ps : List ℕ) (low high more : ℕ) → high ≤ more → Rising ps low high → Rising ps low more
rising_to [] low high more after rise = omega (arith, after, rise)
rising_to (p ∷ ps) low high more after rise = (rise.0, rising_to ps (p + 4) high more after rise.1)

pub rising_append : (ps qs : List ℕ) (low mid high : ℕ) → Rising ps low mid → Rising qs mid high → Rising (ps ++ qs) low high
rising_append [] qs low mid high first second = rising_from qs low mid high first second
rising_append (p ∷ ps) qs low mid high first second = (first.0, rising_append ps qs (p + 4) mid high first.1 second)

-- no more instructions than words
pub rising_count : (ps : List ℕ) (low high : ℕ) → Rising ps low high → low + 4 * length ps ≤ high
rising_count [] low high rise = omega (arith, rise)
rising_count (p ∷ ps) low high rise = omega (arith, rise.0, rising_count ps (p + 4) high rise.1)

-- an address is none of some others
abbrev pub IsApart : ℕ → List ℕ → Type 0
IsApart p [] = Unit {0}
IsApart p (q ∷ qs) = (p ≢ q) × IsApart p qs

-- no two addresses are the same
abbrev pub AreDistinct : List ℕ → Type 0
AreDistinct [] = Unit {0}
AreDistinct (p ∷ ps) = IsApart p ps × AreDistinct ps

below_all : (p : ℕ) (qs : List ℕ) (low high : ℕ) → p < low → Rising qs low high → IsApart p qs
below_all p [] low high below rise = tt
below_all p (q ∷ qs) low high below rise = (λ e. omega (arith, e, below, rise.0), below_all p qs (q + 4) high (omega (arith, below, rise.0)) rise.1)

-- rising addresses are distinct
pub rising_distinct : (ps : List ℕ) (low high : ℕ) → Rising ps low high → AreDistinct ps
rising_distinct [] low high rise = tt
rising_distinct (p ∷ ps) low high rise = (below_all p ps (p + 4) high (omega arith) rise.1, rising_distinct ps (p + 4) high rise.1)

-- a row of one step or more leads on
pub row_leads : (ps : List ℕ) (m last : Machine) (bytes : List ℕ) → Row ps m bytes last → 0 < length ps → Leads board_step m last bytes
row_leads ps m last bytes row some = record { steps = length ps; some = some; goes = row_run ps m last bytes row }
