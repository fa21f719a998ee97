-- `index::Index::strike` meets its contract: a set bit's power taken off clears the bit. Where no bit of the word's number is left, the mask clears
-- the number's bit in the top, and otherwise the top stays. Assumes nothing.
use mathlib.Core.Path.{◌∙◌}
use borrow.Author.Rules.{rules}
use Rattle.index.proofs.Noted.{word-within, struck, top-masked, top-kept, top-struck}
use Rattle.index.proofs.Index.strike.Goals as goal

pub overflow_sub-self : goal.overflow_sub-self
overflow_sub-self c = word-within c.args.self.now.numbers c.args.w c.requires.1

pub returns-then-self-k-eq0 : goal.returns-then-self-k-eq0
returns-then-self-k-eq0 c =
    let x = c.args.self.now in
    let w = c.args.w in
    let (h, n) = c.requires in
    let m = top-masked x.numbers w n x.top h (search rules) c.if-self-k-eq0.true in
    (struck x.numbers w n, m, λ e. m ∙ top-struck w e h n)

pub returns-else-self-k-eq0 : goal.returns-else-self-k-eq0
returns-else-self-k-eq0 c =
    let x = c.args.self.now in
    let w = c.args.w in
    let (h, n) = c.requires in
    let m = top-kept x.numbers w n x.top (search rules) c.if-self-k-eq0.false in
    (struck x.numbers w n, m, λ e. m ∙ top-struck w e h n)
