-- The laws that the functions of src/ rest on. The check applies them by itself, by the attribute at the top of src/lib.rt. Assumes nothing.
use Rattle.command.proofs.Spaces.{fields_some, fields_cut, fields_whole}
use Rattle.command.proofs.Reading.{digits_here, digits_none, digits_over, digits_end, number_empty, number_zero, number_digits}
use Rattle.command.proofs.Reading.{read_byte, read_vector, narrow_ok}
use Rattle.command.proofs.Commands.{join_reads, leave_reads, deliver_reads, find_reads, only_left}
use Rattle.command.proofs.Text.{long-bad}
use Rattle.command.proofs.Lines.{parsed_second, parsed_empty, parsed_word, parsed_letter, parsed_turn, parsed_settle, parsed_print, parsed_other}

pub ruleset steps = (
  fields_cut,
  fields_whole,
  digits_here,
  digits_none,
  digits_over,
  digits_end,
  number_empty,
  number_zero,
  number_digits,
  read_byte,
  read_vector,
  narrow_ok,
  only_left,
  join_reads,
  leave_reads,
  deliver_reads,
  find_reads,
  fields_some,
  parsed_empty,
  parsed_word,
  parsed_letter,
  parsed_turn,
  parsed_settle,
  parsed_print,
  parsed_other,
  long-bad,
  parsed_second,
)
