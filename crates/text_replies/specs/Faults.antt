use Rattle.io_traits.specs.declared.fail.IoFail.{IoFail}
use Rattle.io_traits.specs.declared.fail.IoFail.TheVariants.{Failed, NoMemory}
use Rattle.text_replies.specs.declared.text.RunFault.{RunFault}
use Rattle.text_replies.specs.declared.text.RunFault.TheVariants as run_fault

-- what a refusal of a read of the input ends a text with
abbrev pub input_fault : IoFail → RunFault
input_fault Failed = run_fault.Read
input_fault NoMemory = run_fault.NoMemory

-- what a refusal of a write on out ends a text with
abbrev pub out_fault : IoFail → RunFault
out_fault Failed = run_fault.Write
out_fault NoMemory = run_fault.NoMemory
