-- Calls and handlers on the machine, by computing. No program of today's profile reaches them, so the code is written by hand:
-- each list is an item.
use Rattle.std.proofs.Common.{◌≡◌, refl}
use Rattle.std.specs.Prelude.{ℕ, pos, false, List, [], ◌∷◌, ◌++◌, codes}
use Rattle.bas_ast.specs.declared.expressions.BinaryOp.TheVariants as operators
use Rattle.bas_ast.specs.declared.expressions.NumberFormat.TheVariants.{Decimal}
use Rattle.bas_ast.specs.declared.program.NameKind.TheVariants.{Integer}
use Rattle.bas_ast.specs.declared.targets.SimpleVariable.{SimpleVariable}
use Rattle.bas_ast.specs.declared.targets.SimpleVariable.TheVariants as simple
use Rattle.bas_ir.specs.declared.ir.Ir.{Ir}
use Rattle.bas_ir.specs.declared.ir.Routine.{Routine}
use Rattle.bas_ir.specs.declared.op.CallKind.TheVariants as call_kinds
use Rattle.bas_ir.specs.declared.op.Op.{Op}
use Rattle.bas_ir.specs.declared.op.Op.TheVariants as o
use Rattle.bas_ir.specs.Machine.{flat_from, flat_run_within}
use Rattle.bas_ir.specs.Places.{item_from, is_marked, start_of}
use Rattle.bas_value.specs.Output.{new_line}
use Rattle.bv_base.specs.Bytes.{zeros}
use Rattle.bv_base.specs.MemoryMap.{arena_bytes}
use Rattle.bv_num.specs.Digits.{digits}
use Rattle.bv_run.specs.Outcome.{Outcome, Over, Going}
use Rattle.bv_run.specs.declared.report.Report.{Report}
use Rattle.bv_run.specs.declared.report.Report.TheVariants.{Done, Failed}
use Rattle.ir_build.specs.Code.{joined, joined_marks, starts_from}

-- a machine of items, with one name, x%
abbrev machine : List Routine → List (List Op) → Ir
machine routines items = record {
  ops = joined items;
  marks = joined_marks items;
  starts = starts_from 0 items;
  heights = [];
  routines = routines;
  texts = [];
  names = record { kind = Integer; text = codes "x%" } ∷ [];
  data_items = [];
  line_starts = [];
  size = 0;
}

abbrev routine : ℕ → List SimpleVariable → Routine
routine at formals = record { at = at; formals = formals }

abbrev ends : List ℕ → Report → Outcome
ends output report = Over output (zeros arena_bytes) report

-- writes x%
abbrev show : List Op
show = o.PushInteger 0 1 ∷ o.WriteNumber false Decimal ∷ []

-- PROCp(7), whose formal is x%: inside it is 7, and afterwards 0, since it was never made before
formal_restored : (input : List ℕ) → flat_run_within (machine (routine 3 (simple.Number 0 ∷ []) ∷ [])
    ((o.Push (pos 7) ∷ o.Enter call_kinds.Procedure 0 10 ∷ []) ∷ show ∷ (o.End ∷ []) ∷ show ∷ (o.LeaveProcedure 40 ∷ []) ∷ [])) input 9
    ≡ ends (codes "70") Done
unfolding flat_run_within flat_from item_from is_marked start_of digits
formal_restored input = refl

-- an error in a call inside a call with a local handler: the inner call's formal is restored, the handler's items run in the outer
-- call, and once that has ended the handler is gone
local_handler : (input : List ℕ) → flat_run_within (machine (routine 3 [] ∷ routine 7 (simple.Number 0 ∷ []) ∷ [])
    ((o.Enter call_kinds.Procedure 0 10 ∷ []) ∷ show ∷ (o.Raise 18 20 ∷ [])
    ∷ (o.HandleHere 5 ∷ []) ∷ (o.Push (pos 9) ∷ o.Enter call_kinds.Procedure 1 40 ∷ []) ∷ show ∷ (o.LeaveProcedure 60 ∷ [])
    ∷ show ∷ (o.Raise 18 80 ∷ []) ∷ [])) input 20
    ≡ ends (codes "900" ++ new_line ++ codes "Division by zero at line 20" ++ new_line) (Failed (pos 18) 20)
unfolding flat_run_within flat_from item_from is_marked start_of digits
local_handler input = refl

-- an error in a call with the global handler: nothing is restored, and its items run at the outermost level
global_handler : (input : List ℕ) → flat_run_within (machine (routine 5 (simple.Number 0 ∷ []) ∷ [])
    ((o.HandleAll 3 ∷ []) ∷ (o.Push (pos 9) ∷ o.Enter call_kinds.Procedure 0 20 ∷ []) ∷ (o.End ∷ []) ∷ show ∷ (o.LeaveProcedure 40 ∷ [])
    ∷ (o.Raise 18 50 ∷ []) ∷ [])) input 7
    ≡ Going (codes "99") (zeros arena_bytes)
unfolding flat_run_within flat_from item_from is_marked start_of digits
global_handler input = refl

-- ON ERROR OFF in the call: no handler is left
handler_off : (input : List ℕ) → flat_run_within (machine (routine 3 (simple.Number 0 ∷ []) ∷ [])
    ((o.HandleAll 2 ∷ []) ∷ (o.Push (pos 9) ∷ o.Enter call_kinds.Procedure 0 20 ∷ []) ∷ show ∷ (o.HandleNone ∷ o.Raise 18 50 ∷ []) ∷ [])) input 20
    ≡ ends (new_line ++ codes "Division by zero at line 50" ++ new_line) (Failed (pos 18) 50)
unfolding flat_run_within flat_from item_from is_marked start_of digits
handler_off input = refl

-- 10 N%=0 / 20 ON ERROR PRINT ;N%;:END / 30 PROCp / 40 DEF PROCp N%+=1:PROCp
deepest_call : (input : List ℕ) → flat_run_within (machine (routine 5 [] ∷ [])
    ((o.Push (pos 0) ∷ o.StoreResident 13 ∷ []) ∷ (o.HandleAll 3 ∷ o.Go 2 ∷ []) ∷ (o.Enter call_kinds.Procedure 0 30 ∷ [])
    ∷ (o.PushResident 13 ∷ o.WriteNumber false Decimal ∷ []) ∷ (o.End ∷ [])
    ∷ (o.PushResident 13 ∷ o.Push (pos 1) ∷ o.Binary operators.Add 40 ∷ o.StoreResident 13 ∷ []) ∷ (o.Enter call_kinds.Procedure 0 40 ∷ []) ∷ [])) input 2000
    ≡ ends (codes "512") Done
unfolding flat_run_within flat_from item_from is_marked start_of digits
deepest_call input = refl

-- PRINT ;1+FNf; where FNf is 41: the pending 1 waits for the call
function_value : (input : List ℕ) → flat_run_within (machine (routine 2 [] ∷ [])
    ((o.Push (pos 1) ∷ o.Enter call_kinds.NumberFunction 0 10 ∷ o.Binary operators.Add 10 ∷ o.WriteNumber false Decimal ∷ []) ∷ (o.End ∷ [])
    ∷ (o.NeedFunction 30 ∷ o.Push (pos 41) ∷ o.LeaveNumber ∷ []) ∷ [])) input 9
    ≡ ends (codes "42") Done
unfolding flat_run_within flat_from item_from is_marked start_of digits
function_value input = refl

-- ENDPROC at the outermost level
no_procedure : (input : List ℕ) → flat_run_within (machine [] ((o.LeaveProcedure 10 ∷ []) ∷ [])) input 1
    ≡ ends (new_line ++ codes "Not in a procedure at line 10" ++ new_line) (Failed (pos 13) 10)
unfolding flat_run_within flat_from item_from is_marked start_of digits
no_procedure input = refl
