use Rattle.op_chain.proofs.op.OpOperator.step.Goals as goal

pub returns-in-Select-clause-err : goal.returns-in-Select-clause-err
returns-in-Select-clause-err c = rw c.in-Select.is c.step-in-Select.ensures.err
