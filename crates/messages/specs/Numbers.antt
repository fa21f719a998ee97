-- The five numbers of a message as the code has them. Assumes nothing.
use Rattle.protocol.specs.Message.{Name, name}
use Rattle.messages.specs.declared.Message.{Message}

-- as a name
abbrev pub numbers : Message → Name
numbers m = name m.kind m.to m.about m.level m.side
