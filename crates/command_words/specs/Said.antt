-- What a request of the program says, with its names as lists of bytes.
use Rattle.command_words.specs.CommandLine.{Command, Check, Watch, Replay, Request}
use Rattle.command_words.specs.declared.request.Command.{Command as GivenCommand}
use Rattle.command_words.specs.declared.request.Command.TheVariants as given
use Rattle.command_words.specs.declared.request.Request.{Request as GivenRequest}

-- the command that is said
abbrev pub said_command : GivenCommand → Command
said_command (given.Check model) = Check model.now
said_command (given.Watch model) = Watch model.now
said_command (given.Replay model log) = Replay model.now log.now

-- the request that is said
abbrev pub said : GivenRequest → Request
said r = record { command = said_command r.command; options = r.options }
