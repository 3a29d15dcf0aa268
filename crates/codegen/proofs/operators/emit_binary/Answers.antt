use Rattle.codegen.proofs.operators.emit_binary.Goals as goal

pub returns-in-Multiply : goal.returns-in-Multiply
returns-in-Multiply c = rw c.in-Multiply.is c.emit_operate.ensures

pub returns-in-Divide : goal.returns-in-Divide
returns-in-Divide c = rw c.in-Divide.is c.emit_operate-in-Divide.ensures

pub returns-in-Remainder : goal.returns-in-Remainder
returns-in-Remainder c = rw c.in-Remainder.is c.emit_operate-in-Remainder.ensures
