use Rattle.ms_lines.proofs.FeedLemmas.{no_feed, first_line_found}
use Rattle.ms_lines.proofs.feeds.first_line.Goals as goal

pub returns-in-Some : goal.returns-in-Some
returns-in-Some c = first_line_found c.args.bytes.now c.in-Some.end c.memchr.result c.in-Some.is c.memchr.ensures

pub returns-in-None : goal.returns-in-None
returns-in-None c = no_feed c.args.bytes.now c.memchr.result c.in-None.is c.memchr.ensures
