-- The numbers by which words name conditions, operations, kinds of shifts and registers (VL86C010 (ARM2) data manual).
use Rattle.std.specs.Prelude.{◌≡◌, ℕ, List, [], ◌∷◌}
use Rattle.arm_isa.specs.declared.numbers.TheConstants as code

-- the condition field: each odd condition is the contrary of the one before it
abbrev pub EQ : ℕ
EQ = 0

abbrev pub NE : ℕ
NE = 1

abbrev pub CS : ℕ
CS = 2

abbrev pub CC : ℕ
CC = 3

abbrev pub MI : ℕ
MI = 4

abbrev pub PL : ℕ
PL = 5

abbrev pub VS : ℕ
VS = 6

abbrev pub VC : ℕ
VC = 7

abbrev pub HI : ℕ
HI = 8

abbrev pub LS : ℕ
LS = 9

abbrev pub GE : ℕ
GE = 10

abbrev pub LT : ℕ
LT = 11

abbrev pub GT : ℕ
GT = 12

abbrev pub LE : ℕ
LE = 13

abbrev pub AL : ℕ
AL = 14

abbrev pub NV : ℕ
NV = 15

-- the operations of data processing
abbrev pub AND : ℕ
AND = 0

abbrev pub EOR : ℕ
EOR = 1

abbrev pub SUB : ℕ
SUB = 2

abbrev pub RSB : ℕ
RSB = 3

abbrev pub ADD : ℕ
ADD = 4

abbrev pub ADC : ℕ
ADC = 5

abbrev pub SBC : ℕ
SBC = 6

abbrev pub RSC : ℕ
RSC = 7

abbrev pub TST : ℕ
TST = 8

abbrev pub TEQ : ℕ
TEQ = 9

abbrev pub CMP : ℕ
CMP = 10

abbrev pub CMN : ℕ
CMN = 11

abbrev pub ORR : ℕ
ORR = 12

abbrev pub MOV : ℕ
MOV = 13

abbrev pub BIC : ℕ
BIC = 14

abbrev pub MVN : ℕ
MVN = 15

-- the kinds of shifts
abbrev pub LSL : ℕ
LSL = 0

abbrev pub LSR : ℕ
LSR = 1

abbrev pub ASR : ℕ
ASR = 2

abbrev pub ROR : ℕ
ROR = 3

-- R13 and R14, of which each mode has its own, and R15, which holds the PC and the flags
abbrev pub R13 : ℕ
R13 = 13

abbrev pub R14 : ℕ
R14 = 14

abbrev pub R15 : ℕ
R15 = 15

abbrev conditions_of_code : List ℕ
conditions_of_code = code.EQ ∷ code.NE ∷ code.CS ∷ code.CC ∷ code.MI ∷ code.PL ∷ code.VS ∷ code.VC ∷ code.HI ∷ code.LS ∷ code.GE ∷ code.LT ∷ code.GT ∷ code.LE ∷ code.AL ∷ code.NV ∷ []

abbrev operations_of_code : List ℕ
operations_of_code = code.AND ∷ code.EOR ∷ code.SUB ∷ code.RSB ∷ code.ADD ∷ code.ADC ∷ code.SBC ∷ code.RSC ∷ code.TST ∷ code.TEQ ∷ code.CMP ∷ code.CMN ∷ code.ORR ∷ code.MOV ∷ code.BIC ∷ code.MVN ∷ []

-- The code's constants have these numbers.
pub record AreNumbered : Type 0 where
  pub conditions : conditions_of_code ≡ EQ ∷ NE ∷ CS ∷ CC ∷ MI ∷ PL ∷ VS ∷ VC ∷ HI ∷ LS ∷ GE ∷ LT ∷ GT ∷ LE ∷ AL ∷ NV ∷ []
  pub operations : operations_of_code ≡ AND ∷ EOR ∷ SUB ∷ RSB ∷ ADD ∷ ADC ∷ SBC ∷ RSC ∷ TST ∷ TEQ ∷ CMP ∷ CMN ∷ ORR ∷ MOV ∷ BIC ∷ MVN ∷ []
  pub shifts : code.LSL ∷ code.LSR ∷ code.ASR ∷ code.ROR ∷ [] ≡ LSL ∷ LSR ∷ ASR ∷ ROR ∷ []
  pub registers : code.R13 ∷ code.R14 ∷ code.R15 ∷ [] ≡ R13 ∷ R14 ∷ R15 ∷ []
