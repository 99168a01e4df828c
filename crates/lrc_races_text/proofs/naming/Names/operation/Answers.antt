-- Each operation mentions its target, and nothing else.
use Rattle.lrc_races_text.specs.Naming.{read, write, acquire, release, post, wait, fork, join, arrive, depart, idle}
use Rattle.lrc_races_text.specs.Tables.{no_mention, mention_more}
use Rattle.lrc_races_text.proofs.NamingLemmas.{numbers, mentions_as, operation_as}
use Rattle.lrc_races_text.proofs.naming.Names.operation.Goals as goal

pub returns-in_ok-number-in-Read-clause-mentioned : goal.returns-in_ok-number-in-Read-clause-mentioned
returns-in_ok-number-in-Read-clause-mentioned c = mentions_as c.in-Read.is (record { threads = no_mention; variables = mention_more c.in_ok-number-in-Read.ensures.numbered no_mention; locks = no_mention; barriers = no_mention; locations = no_mention })

pub returns-in_ok-number-in-Read-clause-operation : goal.returns-in_ok-number-in-Read-clause-operation
returns-in_ok-number-in-Read-clause-operation c = operation_as c.in-Read.is (read (numbers c.in_ok-number-in-Read.ensures.numbered))

pub returns-in_ok-number-in-Write-clause-mentioned : goal.returns-in_ok-number-in-Write-clause-mentioned
returns-in_ok-number-in-Write-clause-mentioned c = mentions_as c.in-Write.is (record { threads = no_mention; variables = mention_more c.in_ok-number-in-Write.ensures.numbered no_mention; locks = no_mention; barriers = no_mention; locations = no_mention })

pub returns-in_ok-number-in-Write-clause-operation : goal.returns-in_ok-number-in-Write-clause-operation
returns-in_ok-number-in-Write-clause-operation c = operation_as c.in-Write.is (write (numbers c.in_ok-number-in-Write.ensures.numbered))

pub returns-in_ok-number-in-Acquire-clause-mentioned : goal.returns-in_ok-number-in-Acquire-clause-mentioned
returns-in_ok-number-in-Acquire-clause-mentioned c = mentions_as c.in-Acquire.is (record { threads = no_mention; variables = no_mention; locks = mention_more c.in_ok-number-in-Acquire.ensures.numbered no_mention; barriers = no_mention; locations = no_mention })

pub returns-in_ok-number-in-Acquire-clause-operation : goal.returns-in_ok-number-in-Acquire-clause-operation
returns-in_ok-number-in-Acquire-clause-operation c = operation_as c.in-Acquire.is (acquire (numbers c.in_ok-number-in-Acquire.ensures.numbered))

pub returns-in_ok-number-in-Release-clause-mentioned : goal.returns-in_ok-number-in-Release-clause-mentioned
returns-in_ok-number-in-Release-clause-mentioned c = mentions_as c.in-Release.is (record { threads = no_mention; variables = no_mention; locks = mention_more c.in_ok-number-in-Release.ensures.numbered no_mention; barriers = no_mention; locations = no_mention })

pub returns-in_ok-number-in-Release-clause-operation : goal.returns-in_ok-number-in-Release-clause-operation
returns-in_ok-number-in-Release-clause-operation c = operation_as c.in-Release.is (release (numbers c.in_ok-number-in-Release.ensures.numbered))

pub returns-in_ok-number-in-Post-clause-mentioned : goal.returns-in_ok-number-in-Post-clause-mentioned
returns-in_ok-number-in-Post-clause-mentioned c = mentions_as c.in-Post.is (record { threads = no_mention; variables = no_mention; locks = mention_more c.in_ok-number-in-Post.ensures.numbered no_mention; barriers = no_mention; locations = no_mention })

pub returns-in_ok-number-in-Post-clause-operation : goal.returns-in_ok-number-in-Post-clause-operation
returns-in_ok-number-in-Post-clause-operation c = operation_as c.in-Post.is (post (numbers c.in_ok-number-in-Post.ensures.numbered))

pub returns-in_ok-number-in-Wait-clause-mentioned : goal.returns-in_ok-number-in-Wait-clause-mentioned
returns-in_ok-number-in-Wait-clause-mentioned c = mentions_as c.in-Wait.is (record { threads = no_mention; variables = no_mention; locks = mention_more c.in_ok-number-in-Wait.ensures.numbered no_mention; barriers = no_mention; locations = no_mention })

pub returns-in_ok-number-in-Wait-clause-operation : goal.returns-in_ok-number-in-Wait-clause-operation
returns-in_ok-number-in-Wait-clause-operation c = operation_as c.in-Wait.is (wait (numbers c.in_ok-number-in-Wait.ensures.numbered))

pub returns-in_ok-number-in-Fork-clause-mentioned : goal.returns-in_ok-number-in-Fork-clause-mentioned
returns-in_ok-number-in-Fork-clause-mentioned c = mentions_as c.in-Fork.is (record { threads = mention_more c.in_ok-number-in-Fork.ensures.numbered no_mention; variables = no_mention; locks = no_mention; barriers = no_mention; locations = no_mention })

pub returns-in_ok-number-in-Fork-clause-operation : goal.returns-in_ok-number-in-Fork-clause-operation
returns-in_ok-number-in-Fork-clause-operation c = operation_as c.in-Fork.is (fork (numbers c.in_ok-number-in-Fork.ensures.numbered))

pub returns-in_ok-number-in-Join-clause-mentioned : goal.returns-in_ok-number-in-Join-clause-mentioned
returns-in_ok-number-in-Join-clause-mentioned c = mentions_as c.in-Join.is (record { threads = mention_more c.in_ok-number-in-Join.ensures.numbered no_mention; variables = no_mention; locks = no_mention; barriers = no_mention; locations = no_mention })

pub returns-in_ok-number-in-Join-clause-operation : goal.returns-in_ok-number-in-Join-clause-operation
returns-in_ok-number-in-Join-clause-operation c = operation_as c.in-Join.is (join (numbers c.in_ok-number-in-Join.ensures.numbered))

pub returns-in_ok-number-in-Arrive-clause-mentioned : goal.returns-in_ok-number-in-Arrive-clause-mentioned
returns-in_ok-number-in-Arrive-clause-mentioned c = mentions_as c.in-Arrive.is (record { threads = no_mention; variables = no_mention; locks = no_mention; barriers = mention_more c.in_ok-number-in-Arrive.ensures.numbered no_mention; locations = no_mention })

pub returns-in_ok-number-in-Arrive-clause-operation : goal.returns-in_ok-number-in-Arrive-clause-operation
returns-in_ok-number-in-Arrive-clause-operation c = operation_as c.in-Arrive.is (arrive (numbers c.in_ok-number-in-Arrive.ensures.numbered))

pub returns-in_ok-number-in-Depart-clause-mentioned : goal.returns-in_ok-number-in-Depart-clause-mentioned
returns-in_ok-number-in-Depart-clause-mentioned c = mentions_as c.in-Depart.is (record { threads = no_mention; variables = no_mention; locks = no_mention; barriers = mention_more c.in_ok-number-in-Depart.ensures.numbered no_mention; locations = no_mention })

pub returns-in_ok-number-in-Depart-clause-operation : goal.returns-in_ok-number-in-Depart-clause-operation
returns-in_ok-number-in-Depart-clause-operation c = operation_as c.in-Depart.is (depart (numbers c.in_ok-number-in-Depart.ensures.numbered))

pub returns-in-Idle-clause-mentioned : goal.returns-in-Idle-clause-mentioned
returns-in-Idle-clause-mentioned c = mentions_as c.in-Idle.is (record { threads = no_mention; variables = no_mention; locks = no_mention; barriers = no_mention; locations = no_mention })

pub returns-in-Idle-clause-operation : goal.returns-in-Idle-clause-operation
returns-in-Idle-clause-operation c = operation_as c.in-Idle.is idle
