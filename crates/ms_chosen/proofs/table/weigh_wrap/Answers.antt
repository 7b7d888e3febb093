use Rattle.ms_chosen.proofs.table.weigh_wrap.Goals as goal

pub returns : goal.returns
returns c = λ rule assets h.
    c.weigh_row.ensures rule assets _ c.row_of_wrap.ensures.row (c.row_of_wrap.ensures.seen rule assets (record { in_range = c.requires.x; entries = h })) tt
