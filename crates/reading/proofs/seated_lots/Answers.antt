-- `reading::seated_lots` meets its contract. Assumes nothing.
use mathlib.Core.Path.{refl, ◌∙◌}
use borrow.Author.Rules.{rules}
use borrow.Author.Tests.{tests}
use Rattle.std.proofs.lemmas.Iterator.{YieldsList-from_range}
use Rattle.std.proofs.lemmas.Iterator.Consumers.{count_from_yields_List, YieldsList-from_filter}
use Rattle.protocol.specs.State.{seated}
use Rattle.record.specs.Layout.{seats}
use Rattle.record.specs.Meaning.{seats_in}
use Rattle.reading.proofs.Counted.{passed-over}
use Rattle.reading.proofs.seated_lots.Goals as goal

pub returns : goal.returns
returns c =
    let test = seated (seats_in c.args.rec.now) in
    let all = YieldsList-from_range 0 seats seats c.filter.ensures.source refl in
    count_from_yields_List c.filter.result _ c.count.ensures.ran
    (YieldsList-from_filter _ test all c.filter.ensures.closure (λ x b q k. search (rules, tests)))
    ∙ passed-over seats test
