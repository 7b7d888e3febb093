use Rattle.ms_chosen.proofs.way.price_of_dsat.Goals as goal

pub price_of_way-requires : goal.price_of_way-requires
price_of_way-requires c =
    let h = c.requires in
    let way = c.in-Some.ensures.way h.0 h.1 h.2 in
    (h.0, h.1, way.seen)
