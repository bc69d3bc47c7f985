mod Buckets
