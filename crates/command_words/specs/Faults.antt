-- Which fault stands for an error of clap.
use Rattle.clap.specs.declared.error.kind.ErrorKind.{ErrorKind}
use Rattle.clap.specs.declared.error.kind.ErrorKind.TheVariants.{OutOfMemory}
use Rattle.command_words.specs.declared.fault.WordsFault.{WordsFault}
use Rattle.command_words.specs.declared.fault.WordsFault.TheVariants.{Refused, Memory}

-- by the error's kind
abbrev pub fault_by : ErrorKind → WordsFault
fault_by OutOfMemory = Memory
fault_by _ = Refused
