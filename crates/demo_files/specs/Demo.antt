-- The files that `ksql demo N` runs: its script, topic file and schedule.
use Rattle.std.specs.Prelude.{ℕ, ◌*◌, ◌%◌, List, ◌++◌, codes, decimal, flat_map}
use Rattle.std.specs.Int.{div_ceil}
use Rattle.std.specs.List.{range_with_len}

-- a stream of page hits, a table of each page's hits, and one of its hits per minute
unfoldable pub demo_script : List ℕ
demo_script =
    codes "CREATE STREAM HITS (ID BIGINT KEY, PAGE VARCHAR, N INTEGER)\n"
    ++ (codes "  WITH (KAFKA_TOPIC='hits', VALUE_FORMAT='JSON', PARTITIONS=4);\n"
    ++ (codes "CREATE TABLE PAGES AS SELECT PAGE, COUNT(*) AS C, SUM(N) AS TOTAL\n"
    ++ (codes "  FROM HITS GROUP BY PAGE;\n"
    ++ (codes "CREATE TABLE MINUTES AS SELECT PAGE, COUNT(*) AS C\n"
    ++ codes "  FROM HITS WINDOW TUMBLING (SIZE 1 MINUTE) GROUP BY PAGE;\n"))))

-- the line of record i: one record a second, with a thousand keys in turn and ten pages in turn
unfoldable pub demo_line : ℕ → List ℕ
demo_line i =
    codes "{\"t\":" ++ (decimal (1000 * i)
    ++ (codes ",\"k\":" ++ (decimal (i % 1000)
    ++ (codes ",\"v\":{\"PAGE\":\"p" ++ (decimal (i % 10)
    ++ (codes "\",\"N\":" ++ (decimal (i % 100)
    ++ codes "}}\n")))))))

-- the lines of n records
unfoldable pub demo_topic_file : ℕ → List ℕ
demo_topic_file n = flat_map demo_line (range_with_len 0 n)

-- the lines of one feed: a tenth of n records, rounded up, a round in which worker 1's proposals are lost, and its
-- restart
unfoldable pub feed_lines : ℕ → List ℕ
feed_lines n = codes "feed hits " ++ (decimal (div_ceil n 10) ++ codes "\nround lose 1\nstart 1\n")

-- ten feeds
unfoldable pub feeds_of : ℕ → List ℕ
feeds_of n = flat_map (λ _. feed_lines n) (range_with_len 0 10)

-- the schedule that feeds n records
unfoldable pub demo_schedule : ℕ → List ℕ
demo_schedule n = feeds_of n ++ codes "drain\n"
