use Rattle.world_views.proofs.report_lines.push_note.Goals as goal

pub returns-clause-ok : goal.returns-clause-ok
returns-clause-ok c = rw (c.site.ensures.severity, c.site.ensures.time, c.site.ensures.nodes) at c.push_note.ensures.ok

pub returns-clause-some : goal.returns-clause-some
returns-clause-some c = rw (c.site.ensures.severity, c.site.ensures.time, c.site.ensures.nodes) at c.push_note.ensures.some

pub returns-clause-plain : goal.returns-clause-plain
returns-clause-plain c = rw (c.site.ensures.severity, c.site.ensures.time, c.site.ensures.nodes) at c.push_note.ensures.plain
