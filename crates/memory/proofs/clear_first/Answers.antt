-- `memory::clear_first` meets its contract: the machine's count is the first set bit, and its power taken off clears it. Assumes nothing.
use mathlib.Core.Path.{◌≡◌}
use mathlib.Core.Bool.{true}
use borrow.Author.Rules.{rules}
use Rattle.base.specs.Loops.{any}
use Rattle.memory.specs.Bytes.{AreBytes}
use Rattle.memory.specs.Bits.{has_bit}
use Rattle.memory.proofs.FirstSet.{x-some, word_first, count-below, first-within, first-cleared, rest-none}
use Rattle.memory.proofs.clear_first.Goals as goal
use Rattle.memory.proofs.clear_first.Goals.{After-word-x}

-- the word's number: a bit of it is set
some : (c : After-word-x) → any 64 (has_bit c.word-x.result) ≡ true
some c =
    x-some c.args.rec.now c.args.base c.args.w (search rules) (search rules) c.requires.1 c.word-x.ensures

pub overflow_shl-rest : goal.overflow_shl-rest
overflow_shl-rest c = count-below 64 c.word-x.result (some (goal.at.overflow_shl-rest c).After-word-x)

pub overflow_sub-rest : goal.overflow_sub-rest
overflow_sub-rest c = first-within 64 c.word-x.result (some (goal.at.overflow_sub-rest c).After-word-x)

pub returns : goal.returns
returns c =
    let l = c.args.rec.now in
    let known : AreBytes l = search rules in record {
      bit = word_first l c.args.base c.args.w known (search rules) c.requires.1 c.word-x.ensures;
      cleared = first-cleared l c.args.base c.args.w known (search rules) c.requires.1 c.word-x.ensures c.put_word.ensures;
      last = rest-none l c.args.base c.args.w known (search rules) c.requires.1 c.word-x.ensures c.put_word.ensures;
    }
