use Rattle.store_read.proofs.Vocabulary.{[], ◌∷◌, Text}
use Rattle.store_read.proofs.load.load_values.Goals as goal

pub load_selected-requires-clause-plain : goal.load_selected-requires-clause-plain
load_selected-requires-clause-plain g c = (c.select.ensures c.args.holder.now).plain

pub returns-clause-found : goal.returns-clause-found
returns-clause-found g c =
    c.load_selected.ensures.found c.args.holder.now (Text c.args.holder.now ∷ []) g.T.OfHolder.items g.T.OfHolder.order c.name_values.ensures (c.select.ensures c.args.holder.now)

pub returns-clause-rising : goal.returns-clause-rising
returns-clause-rising g c =
    c.load_selected.ensures.rising c.args.holder.now (Text c.args.holder.now ∷ []) g.T.OfHolder.items g.T.OfHolder.order c.name_values.ensures (c.select.ensures c.args.holder.now)

pub returns-clause-schema : goal.returns-clause-schema
returns-clause-schema g c =
    c.load_selected.ensures.schema c.args.holder.now (Text c.args.holder.now ∷ []) g.T.OfHolder.items g.T.OfHolder.order c.name_values.ensures (c.select.ensures c.args.holder.now)
