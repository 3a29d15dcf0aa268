-- What the code of an operation owes, by what the flat machine does. This project's own.
use Rattle.std.specs.Prelude.{◌≡◌, ◌⊎◌, ℕ, ◌+◌, ◌*◌, ◌<◌, ◌≤◌, ◌++◌, pos, Option, None, Some}
use Rattle.bas_ir.specs.Effects.{Effect, Falls, Goes, Opens, Enters}
use Rattle.bas_ir.specs.Places.{Pending, nothing}
use Rattle.bas_sem.specs.Calls.{GoOn, Leave}
use Rattle.bas_sem.specs.Course.{Course, Value, Raised, Over, Spent}
use Rattle.bas_sem.specs.Loops.{opens}
use Rattle.bas_sem.specs.State.{State}
use Rattle.bas_value.specs.Errors.{error_text}
use Rattle.bas_value.specs.Output.{Closing, part_bytes}
use Rattle.bv_run.specs.declared.report.Report.{Report}
use Rattle.bv_run.specs.declared.report.Report.TheVariants.{Failed}
use Rattle.arm_core.specs.Core.{Core}
use Rattle.code_frag.specs.Demands as demands
use Rattle.code_frag.specs.Demands.{Out, Post, Leaves, ToLabel, ToPlace, ToEnd}
use Rattle.runtime_lib.specs.Entries.{CanWrite, column_in}
use Rattle.codegen.specs.Operations.{raise_label, item_label}
use Rattle.codegen.specs.StandsFor.{Site, StandsFor, HasArena}

-- the run ends with a report
pub record Ends (report : Report) (st : State) (o : Out) (t : Core) : Type 0 where
  pub leaves : o ≡ Leaves (ToEnd report)
  pub out : t.out ≡ st.output
  pub has_arena : HasArena t.mem st.arena

-- An error is in R0 and its line in R1, and what is written of it ends the run.
pub record Raises (report : Report) (st : State) (o : Out) (t : Core) : Type 0 where
  pub leaves : o ≡ Leaves (ToLabel raise_label)
  pub can_write : CanWrite t
  pub error : t.regs 0 < 256
  pub line : t.regs 1 < 65536
  pub reports : report ≡ Failed (pos (t.regs 0)) (t.regs 1)
  pub out : st.output ≡ t.out ++ part_bytes (Closing (error_text (t.regs 0)) (t.regs 1)) (column_in t)
  pub has_arena : HasArena t.mem st.arena

-- it leads to an item, by its label or by the branch to it
abbrev pub LeadsTo : Site → ℕ → Out → Type 0
LeadsTo site item o = (o ≡ Leaves (ToLabel (item_label item))) ⊎ ((o ≡ Leaves (ToPlace (site.branches + 4 * item))) × (item ≤ site.items))

-- where it comes to after an entry opened, or an error of that: the next operation, or an item
abbrev pub ComesOpened : Site → Option ℕ → Pending → Course (Unit {0}) → Post
ComesOpened site None p (Value _ st) o t = (o ≡ demands.Falls) × StandsFor site p st t
ComesOpened site (Some item) p (Value _ st) o t = LeadsTo site item o × StandsFor site nothing st t
ComesOpened site to p (Raised handler st) o t = ⊥
ComesOpened site to p (Over report st) o t = Ends report st o t ⊎ Raises report st o t
ComesOpened site to p (Spent st) o t = ⊥

-- where the code of an operation comes to, by what the operation does
abbrev pub Comes : Site → Course Effect → Post
Comes site (Value (Falls p) st) o t = (o ≡ demands.Falls) × StandsFor site p st t
Comes site (Value (Goes (GoOn item)) st) o t = LeadsTo site item o × StandsFor site nothing st t
Comes site (Value (Goes (Leave value)) st) o t = ⊥
Comes site (Value (Opens line opening to p) st) o t = ComesOpened site to p (opens 0 line opening site.next st) o t
Comes site (Value (Enters line kind body values p) st) o t = ⊥
Comes site (Raised handler st) o t = ⊥
Comes site (Over report st) o t = Ends report st o t ⊎ Raises report st o t
Comes site (Spent st) o t = ⊥

-- the same under a name of its own
pub record Arrives (site : Site) (c : Course Effect) (o : Out) (t : Core) : Type 0 where
  pub by : Comes site c o t
