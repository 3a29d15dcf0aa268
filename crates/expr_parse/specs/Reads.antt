-- What a function that reads at the front of a list answers.
use Rattle.std.specs.Prelude.{◌≡◌, ⊤, List, Option, Some, None, Result}
use Rattle.std.specs.declared.alloc.AllocError.{AllocError}
use Rattle.std.specs.declared.result.Result.TheVariants.{Ok, Err}
use denote.Ref.{Bor}
use Rattle.bas_ast.specs.declared.terminals.Terminal.{Terminal}
use Rattle.expr_parse.specs.declared.failure.Failure.{Failure}
use Rattle.expr_parse.specs.declared.failure.Failure.TheVariants.{Absent, NoMemory}
use Rattle.expr_parse.specs.Parse.{Front, Parser}

-- The answer is this front and the list after it is what is left, but for want of memory.
abbrev pub Reads : {A : Type 0} → Front A → Result A Failure → List Terminal → Type 0
Reads front (Ok x) rest = front ≡ Some (x, rest)
Reads front (Err Absent) rest = front ≡ None
Reads front (Err NoMemory) rest = ⊤

-- The same of an answer that has what is left.
abbrev pub ReadsOn : {A : Type 0} → Front A → Result (A × Bor (List Terminal)) Failure → Type 0
ReadsOn front (Ok z) = front ≡ Some (z.0, z.1.now)
ReadsOn front (Err Absent) = front ≡ None
ReadsOn front (Err NoMemory) = ⊤

-- What stands here is passed over, or the list stays as it was. No memory is asked for.
abbrev pub Passes : Option (List Terminal) → Result Unit Failure → List Terminal → List Terminal → Type 0
Passes after (Ok x) old rest = after ≡ Some rest
Passes after (Err Absent) old rest = (after ≡ None) × (rest ≡ old)
Passes after (Err NoMemory) old rest = ⊥

-- The same where what stands here is worth something.
abbrev pub Takes : {A : Type 0} → Front A → Result A Failure → List Terminal → List Terminal → Type 0
Takes front (Ok x) old rest = front ≡ Some (x, rest)
Takes front (Err Absent) old rest = (front ≡ None) × (rest ≡ old)
Takes front (Err NoMemory) old rest = ⊥

-- what was read before, with what is read next
abbrev pub keeps : {A B E : Type 0} → A → Result B E → Result (A × B) E
keeps x (Ok y) = Ok (x, y)
keeps x (Err e) = Err e

-- what was read before, where what comes next was passed over
abbrev pub keeps_alone : {A E : Type 0} → A → Result Unit E → Result A E
keeps_alone x (Ok y) = Ok x
keeps_alone x (Err e) = Err e

-- The second answer is the first, where absence is none.
abbrev pub IsOptional : {A : Type 0} → Result A Failure → Result (Option A) AllocError → Type 0
IsOptional (Ok x) answer = answer ≡ Ok (Some x)
IsOptional (Err Absent) answer = answer ≡ Ok None
IsOptional (Err NoMemory) (Ok y) = ⊥
IsOptional (Err NoMemory) (Err e) = ⊤

-- What is found is of the kind that is asked for, or absent.
abbrev pub IsOnly : {A : Type 0} → Parser A → Result A Failure → Type 0
IsOnly only (Ok x) = (r : List Terminal) → only r ≡ Some (x, r)
IsOnly only (Err Absent) = (r : List Terminal) → only r ≡ None
IsOnly only (Err NoMemory) = ⊥
