-- What a piece of a run comes to, and how pieces follow one another. This project's own.
use Rattle.bv_run.specs.declared.report.Report.{Report}
use Rattle.bas_store.specs.Stored.{Handler}
use Rattle.bas_sem.specs.State.{State}

-- A piece of a run comes to a value; or to an error that is on its way out to the handler that takes it; or the run is over
-- there; or no step is left.
pub data Course (A : Type 0) : Type 0 where
  Value : (value : A) (state : State) → Course A
  Raised : (handler : Handler) (state : State) → Course A
  Over : (report : Report) (state : State) → Course A
  Spent : (state : State) → Course A

-- a piece of a run
abbrev pub Action : Type 0 → Type 0
Action A = State → Course A

-- goes on with a value, and hands all else on
abbrev pub on_value : {A B : Type 0} → Course A → (A → Action B) → Course B
on_value (Value v s) next = next v s
on_value (Raised h s) next = Raised h s
on_value (Over r s) next = Over r s
on_value (Spent s) next = Spent s

infixl 20 ◌>>=◌
-- a piece, and then one that has its value
abbrev pub ◌>>=◌ : {A B : Type 0} → Action A → (A → Action B) → Action B
◌>>=◌ m next = λ s. on_value (m s) next

infixl 20 ◌>>◌
-- a piece, and then another
abbrev pub ◌>>◌ : {A B : Type 0} → Action A → Action B → Action B
◌>>◌ m next = λ s. on_value (m s) (λ _. next)

-- a value, with nothing done
abbrev pub give : {A : Type 0} → A → Action A
give v = λ s. Value v s

-- the run is over
abbrev pub over : {A : Type 0} → Report → Action A
over report = λ s. Over report s
