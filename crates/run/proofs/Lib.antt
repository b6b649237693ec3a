mod Visits
